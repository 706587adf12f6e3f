-- The current member is passed over, and another one is added if it is named.
use Rattle.std.proofs.Common.{arith, refl, rules}
use Rattle.conflicts.proofs.Loops.{named_current, named_other}
use Rattle.conflicts.proofs.resolutions.push_other.Goals as goal

pub returns-then-place : goal.returns-then-place
returns-then-place c = λ f.
    named_current c.args.names.now.all.now c.args.set.now c.args.place _ _ (omega (arith, c.place.ensures.value)) refl f

pub returns : goal.returns
returns c = λ f.
    named_other c.args.names.now.all.now c.args.set.now c.args.place c.index-members-place.result _ _ c.requires
    (search rules) (λ e. c.if-place.false (omega (arith, e, c.place.ensures.value))) c.in_ok-push_named.ensures f
