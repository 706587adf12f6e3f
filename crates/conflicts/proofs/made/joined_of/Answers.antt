-- The join from the last clock on.
use Rattle.std.specs.Prelude.{◌-◌, ◌<◌, MatchOption, Option, length}
use Rattle.std.proofs.Common.{◌≡◌, arith, refl, subst}
use Rattle.u1_base.specs.declared.limits.TheConstants.{MOST_CLOCK_ENTRIES}
use Rattle.vector_rev.specs.Clock.{Clock}
use Rattle.vector_rev.specs.Counts.{join}
use Rattle.conflicts.proofs.MadeClocks.{join_start, join_many}
use Rattle.conflicts.proofs.made.joined_of.Goals as goal

pub loop-place-init : goal.loop-place-init
loop-place-init c = record {
  there = omega arith;
  joined = join_start c.args.clocks.now
      (length c.args.clocks.now - 1) c.index-clocks-place.result _ c.requires refl c.index-clocks-place.is
      c.in_ok-all.ensures;
}

pub returns-in-None : goal.returns-in-None
returns-in-None c =
    join_many c.args.clocks.now (c.loop-place.place - 1) c.loop-place.place c.index-clocks-place-in-loop-place.result
    c.loop-place.all (omega arith) (omega arith) c.index-clocks-place-in-loop-place.is c.loop-place.invariant.joined
    (subst (λ (o : Option Clock). MatchOption o
    (MOST_CLOCK_ENTRIES < length (join c.index-clocks-place-in-loop-place.result.entries c.loop-place.all.entries))
    (λ z. z.entries ≡ join c.index-clocks-place-in-loop-place.result.entries c.loop-place.all.entries)) c.in-None.is
    c.in_ok-clock.ensures)
