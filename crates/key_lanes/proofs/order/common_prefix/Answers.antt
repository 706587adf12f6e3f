-- What was passed is equal; the last block may overlap it.
use Rattle.std.proofs.Common.{◌≡◌, ◌+◌, ◌-◌, arith, subst}
use Rattle.key_lanes.specs.inner.Blocks.{EqualBetween}
use Rattle.key_lanes.proofs.Fronts.{prefix_to_difference, prefix_is_whole}
use Rattle.key_lanes.proofs.order.common_prefix.Goals as goal

pub returns-in-Some-clause-value : goal.returns-in-Some-clause-value
returns-in-Some-clause-value c =
    let found = c.in-Some.ensures in
    prefix_to_difference c.args.a.now c.args.b.now c.loop-at.at c.loop-at.at _ c.loop-at.invariant.same (omega arith)
    (omega (arith, found.0)) (omega (arith, found.0)) found.1

pub returns-in-Some-difference_in_block-clause-value : goal.returns-in-Some-difference_in_block-clause-value
returns-in-Some-difference_in_block-clause-value c =
    let found = c.in-Some-difference_in_block.ensures in
    prefix_to_difference c.args.a.now c.args.b.now c.loop-at.at (c.min-len.result - 16) _ c.loop-at.invariant.same
    (omega arith) (omega (arith, found.0)) (omega (arith, found.0)) found.1

pub returns-in-None-clause-value : goal.returns-in-None-clause-value
returns-in-None-clause-value c =
    let whole : c.min-len.result - 16 + 16 ≡ c.min-len.result = omega arith in
    prefix_is_whole c.args.a.now c.args.b.now c.loop-at.at
    (c.min-len.result - 16) c.min-len.result c.loop-at.invariant.same (omega arith) c.min-len.ensures
    (subst (EqualBetween c.args.a.now c.args.b.now (c.min-len.result - 16)) whole c.in-None.ensures)
