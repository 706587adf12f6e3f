-- A clock of the same entries is the same clock.
use Rattle.std.proofs.Common.{◌∙◌, ap, arith, length}
use Rattle.std.proofs.lemmas.List.{take_all}
use Rattle.vector_rev.specs.Counts.{Entries}
use Rattle.vector_rev.specs.Clock.{Clock}
use Rattle.vector_rev.specs.Stored.{same_record}
use Rattle.vector_rev.proofs.clock.Clock.copy_with_capacity.Goals as goal

pub returns : goal.returns
returns c =
    let long = ap (λ (es : Entries). length es) c.as_slice-entry-items.ensures.value
    ∙ ap (λ (x : Clock). length x.entries) c.self.view_is in
    same_record _ c.args.self.now (c.loop-entry.invariant
    ∙ take_all c.loop-entry.entry-index c.args.self.now.entries (omega (arith, long, c.loop-entry-test.false)))
