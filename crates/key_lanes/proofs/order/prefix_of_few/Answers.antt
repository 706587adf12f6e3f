-- Two blocks, of which the second may overlap the first.
use Rattle.std.proofs.Common.{◌≡◌, ◌+◌, ◌-◌, arith, subst, zero-add}
use Rattle.key_lanes.specs.inner.Blocks.{EqualBetween}
use Rattle.key_lanes.proofs.Fronts.{prefix_to_difference, prefix_is_whole}
use Rattle.key_lanes.proofs.order.prefix_of_few.Goals as goal

pub returns-in-Some-clause-value : goal.returns-in-Some-clause-value
returns-in-Some-clause-value c =
    let found = c.in-Some.ensures in
    prefix_to_difference c.args.a.now c.args.b.now 0 0 _ (λ k low to. absurd (omega arith)) (omega arith)
    (omega (arith, found.0)) (omega (arith, found.0)) (simp zero-add at found.1)

pub returns-then-len-eq-FEW_LANES-clause-value : goal.returns-then-len-eq-FEW_LANES-clause-value
returns-then-len-eq-FEW_LANES-clause-value c =
    prefix_is_whole c.args.a.now c.args.b.now 8 8 c.args.len c.in_default.ensures (omega arith) c.requires.shorter
    (λ k low to. absurd (omega arith))

pub returns-in-Some-difference_in_few-clause-value : goal.returns-in-Some-difference_in_few-clause-value
returns-in-Some-difference_in_few-clause-value c =
    let found = c.in-Some-difference_in_few.ensures in
    prefix_to_difference c.args.a.now c.args.b.now 8 (c.args.len - 8) _ c.in_default.ensures (omega arith)
    (omega (arith, found.0)) (omega (arith, found.0)) found.1

pub returns-in-None-clause-value : goal.returns-in-None-clause-value
returns-in-None-clause-value c =
    let whole : c.args.len - 8 + 8 ≡ c.args.len = omega arith in
    prefix_is_whole c.args.a.now c.args.b.now 8 (c.args.len - 8) c.args.len c.in_default.ensures
    (omega arith) c.requires.shorter
    (subst (EqualBetween c.args.a.now c.args.b.now (c.args.len - 8)) whole c.in-None.ensures)
