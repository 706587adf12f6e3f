-- Where one of the two lists has ended, their lengths decide.
use Rattle.std.proofs.Common.{inl, inr}
use Rattle.conflicts.proofs.ClockOrder.{walked_out}
use Rattle.conflicts.proofs.names.entries_cmp.Goals as goal
use Rattle.conflicts.proofs.names.entries_cmp.Goals.{then-loop-place-test+else-place-right, else-loop-place-test}

pub returns : goal.returns
returns c =
    walked_out c.args.left.now c.args.right.now c.loop-place.place c.cmp.result c.loop-place.invariant.left_within
    c.loop-place.invariant.right_within
    (elim c.loop-place-test.branch [
      | then-loop-place-test+else-place-right w ↦ inr w.if-place-right.false
      | else-loop-place-test w ↦ inl w.loop-place-test.false
    ])
    c.cmp.ensures c.loop-place.invariant.rest
