use Rattle.std.proofs.Common.{map, ap, ◌∙◌, arith}
use Rattle.std.proofs.lemmas.List.{nil_from_length}
use Rattle.replica_state.specs.Held.{meaning}
use Rattle.replica_state.specs.Steps.{step_of}
use Rattle.compaction.specs.Compaction.{compacted}
use Rattle.compaction.specs.inner.Noted.{later_of}
use Rattle.compaction.proofs.Again.{same_compacted}
use Rattle.compaction.proofs.Backward.{goes_to, begun, all_done}
use Rattle.compaction.proofs.compacting.compact.Goals as goal

pub loop-step-init : goal.loop-step-init
loop-step-init c =
    let s = meaning c.args.state.now in
    let l = later_of c.new-noted.result in
    (λ i. goes_to s l (c.into_vec-steps.ensures i) (c.new-left.ensures.items i))
    ∙ begun s l (map step_of c.args.steps) c.new-noted.ensures

pub returns-clause-compaction : goal.returns-clause-compaction
returns-clause-compaction c =
    let l = c.loop-step in
    let all = all_done (meaning c.args.state.now)
    (later_of l.noted) l.steps.items l.left.items c.reverse.new.self.items _
    (nil_from_length l.steps.items (omega (arith, l.steps.ok.0, c.in_default.ensures.cases))) c.reverse.ensures.items
    l.invariant in
    λ name uid e.
    ap (map step_of) c.from_vec.ensures
    ∙ all
    ∙ ap (λ s. compacted s (map step_of c.args.steps)) e
    ∙ same_compacted name uid (map step_of c.args.steps) (map step_of c.args.steps)
