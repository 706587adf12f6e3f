-- What the two tests of covering say together.
use Rattle.std.proofs.Common.{sym, ◌∙◌}
use Rattle.vector_rev.proofs.ClockLaws.{covers-both, dominates_by, not_covers}
use Rattle.vector_rev.proofs.clock.Clock.order.Goals as goal

pub returns-then-covered-clause-counters : goal.returns-then-covered-clause-counters
returns-then-covered-clause-counters c =
    covers-both c.args.self.now c.args.other.now (sym c.both_ways-covers.ensures.covers ∙ c.if-covers.true)
    (sym c.both_ways-covers.ensures.covered ∙ c.if-covered.true)

pub returns-else-covered-clause-counters : goal.returns-else-covered-clause-counters
returns-else-covered-clause-counters c =
    dominates_by c.args.self.now c.args.other.now (sym c.both_ways-covers.ensures.covers ∙ c.if-covers.true)
    (sym c.both_ways-covers.ensures.covered ∙ c.if-covered.false)

pub returns-then-covered-2-clause-counters : goal.returns-then-covered-2-clause-counters
returns-then-covered-2-clause-counters c =
    dominates_by c.args.other.now c.args.self.now (sym c.both_ways-covers.ensures.covered ∙ c.if-covered-2.true)
    (sym c.both_ways-covers.ensures.covers ∙ c.if-covers.false)

pub returns-else-covered-2-clause-counters : goal.returns-else-covered-2-clause-counters
returns-else-covered-2-clause-counters c = (
  not_covers c.args.self.now c.args.other.now (sym c.both_ways-covers.ensures.covers ∙ c.if-covers.false),
  not_covers c.args.other.now c.args.self.now (sym c.both_ways-covers.ensures.covered ∙ c.if-covered-2.false),
)
