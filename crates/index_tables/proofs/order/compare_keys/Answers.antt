-- One of the two ended, so that the lengths decide.
use Rattle.std.proofs.Common.{sym, ◌∙◌, arith, inl, inr, nat_cmp}
use Rattle.std.specs.Cmp.Lexicographic.{slice_cmp}
use Rattle.index_tables.proofs.Keys.{cmp-at_end}
use Rattle.index_tables.proofs.order.compare_keys.Goals as goal
use Rattle.index_tables.proofs.order.compare_keys.Goals.{then-loop-at-test+else-at-b, else-loop-at-test}

pub returns : goal.returns
returns c =
    let i = c.loop-at.invariant in
    c.cmp.ensures
    ∙ sym (i.rests ∙ cmp-at_end (slice_cmp nat_cmp) c.args.a.now c.args.b.now c.loop-at.at i.in_a i.in_b
    (elim c.loop-at-test.branch [
      | then-loop-at-test+else-at-b w ↦ inr (omega (arith, w.if-at-b.false))
      | else-loop-at-test w ↦ inl (omega (arith, w.loop-at-test.false))
    ]))
