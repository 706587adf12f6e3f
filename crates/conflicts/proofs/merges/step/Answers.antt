-- The current member is passed over, and another one is looked at.
use Rattle.std.proofs.Common.{arith, refl, rules}
use Rattle.conflicts.proofs.Walks.{step_current, step_found}
use Rattle.conflicts.proofs.merges.step.Goals as goal

pub returns-then-place : goal.returns-then-place
returns-then-place c =
    step_current c.args.set.now c.args.incoming.now c.args.own.now c.args.place _ _
    (omega (arith, c.place.ensures.value)) refl

pub returns : goal.returns
returns c =
    step_found c.look_at.result c.args.set.now c.args.incoming.now c.args.own.now c.args.place
    c.index-members-place.result _ _ c.requires
    (search rules) (λ e. c.if-place.false (omega (arith, e, c.place.ensures.value))) c.look_at.ensures
