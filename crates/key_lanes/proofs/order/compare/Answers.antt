-- The next bytes decide, or the lengths where one of the two is the common front.
use Rattle.std.proofs.Common.{sym, ◌∙◌, arith, inl, inr}
use Rattle.key_lanes.proofs.Fronts.{slice_cmp-at_difference, slice_cmp-of_front}
use Rattle.key_lanes.proofs.order.compare.Goals as goal
use Rattle.key_lanes.proofs.order.compare.Goals.{else-at-a-via-then-at-a+else-at-b, else-at-a-via-else-at-a}

pub returns-then-at-b : goal.returns-then-at-b
returns-then-at-b c =
    c.cmp.ensures ∙ sym (slice_cmp-at_difference c.args.a.now c.args.b.now _ c.common_prefix-at.ensures.value
    c.if-at-a.true c.if-at-b.true)

pub returns-else-at-a : goal.returns-else-at-a
returns-else-at-a c =
    let is = c.common_prefix-at.ensures in
    c.cmp-else-at-a.ensures ∙ sym (slice_cmp-of_front c.args.a.now c.args.b.now _ is.value (elim c.else-at-a.branch [
      | else-at-a-via-then-at-a+else-at-b w ↦ inr (omega (arith, is.in_b, w.if-at-b.false))
      | else-at-a-via-else-at-a w ↦ inl (omega (arith, is.in_a, w.if-at-a.false))
    ]))
