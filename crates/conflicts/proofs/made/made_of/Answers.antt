-- The join of the parents, raised.
use Rattle.std.specs.Prelude.{◌<◌, MatchOption, Option, length}
use Rattle.std.proofs.Common.{◌≡◌, subst, sym}
use Rattle.u1_base.specs.declared.limits.TheConstants.{MOST_CLOCK_ENTRIES}
use Rattle.vector_rev.specs.Clock.{Clock}
use Rattle.conflicts.specs.Making.{joined}
use Rattle.conflicts.proofs.MadeClocks.{made_joined, raised_then, too_many_is_none}
use Rattle.conflicts.proofs.made.made_of.Goals as goal

pub returns-in-Some : goal.returns-in-Some
returns-in-Some c =
    raised_then c.raised_of.result _ _ c.raised_of.ensures
    (made_joined c.args.parents.now c.args.own.now c.in-Some.clock
    (subst (λ (o : Option Clock). MatchOption o (MOST_CLOCK_ENTRIES < length (joined c.args.parents.now))
    (λ z. z.entries ≡ joined c.args.parents.now)) c.in-Some.is c.in_ok-clock.ensures))

pub returns-in-None : goal.returns-in-None
returns-in-None c =
    sym (too_many_is_none c.args.parents.now c.args.own.now
    (subst (λ (o : Option Clock). MatchOption o (MOST_CLOCK_ENTRIES < length (joined c.args.parents.now))
    (λ z. z.entries ≡ joined c.args.parents.now)) c.in-None.is c.in_ok-clock.ensures))
