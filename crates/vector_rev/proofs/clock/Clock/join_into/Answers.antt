-- The entries that were put are those of the joined counters.
use Rattle.std.proofs.Common.{ap₂, ◌∙◌, arith}
use Rattle.vector_rev.specs.Counts.{join, Entries}
use Rattle.vector_rev.specs.Clock.{Clock}
use Rattle.vector_rev.proofs.ClockLaws.{is_clock-joined, count_in-IsJoin, occurring-joined}
use Rattle.vector_rev.proofs.clock.Clock.join_into.Goals as goal

pub returns-then-len-gt-MOST_CLOCK_ENTRIES-clause-counters : goal.returns-then-len-gt-MOST_CLOCK_ENTRIES-clause-counters
returns-then-len-gt-MOST_CLOCK_ENTRIES-clause-counters c =
    let joined = c.in_ok-put_each.ensures
    ∙ ap₂ (λ (es : Entries) (z : Clock). join es z.entries) c.entries.ensures.value c.all.view_is in
    omega (
      arith,
      occurring-joined c.args.self.now c.args.all c.put_each.new.entries.items joined,
      c.len.ensures,
      c.put_each.new.entries.ok,
    )

pub invariant_of-result : goal.invariant_of-result
invariant_of-result c =
    let joined = c.in_ok-put_each.ensures
    ∙ ap₂ (λ (es : Entries) (z : Clock). join es z.entries) c.entries.ensures.value c.all.view_is in (
      is_clock-joined c.args.self.now c.args.all c.put_each.new.entries.items joined
          (omega (arith, c.len.ensures, c.put_each.new.entries.ok)),
      tt,
    )

pub returns-clause-counters : goal.returns-clause-counters
returns-clause-counters c =
    let joined = c.in_ok-put_each.ensures
    ∙ ap₂ (λ (es : Entries) (z : Clock). join es z.entries) c.entries.ensures.value c.all.view_is in
    count_in-IsJoin c.args.self.now c.args.all c.put_each.new.entries.items joined

pub returns-clause-value : goal.returns-clause-value
returns-clause-value c =
    c.in_ok-put_each.ensures
    ∙ ap₂ (λ (es : Entries) (z : Clock). join es z.entries) c.entries.ensures.value c.all.view_is
