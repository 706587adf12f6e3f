-- The counter that was put is one more, and the clock keeps the limits.
use Rattle.std.proofs.Common.{◌∙◌, max, ap}
use Rattle.std.specs.FinMap.Entries.{put}
use Rattle.u1_base.specs.Ids.{id_cmp}
use Rattle.vector_rev.specs.Clock.{Clock, count_of}
use Rattle.vector_rev.proofs.ClockLaws.{IsNext-entries}
use Rattle.vector_rev.proofs.Putting.{raised_list}
use Rattle.vector_rev.proofs.clock.Clock.raise.Goals as goal

pub invariant_of-result : goal.invariant_of-result
invariant_of-result c =
    let done = c.in_ok-put_greater.ensures.entries
    ∙ ap (λ (x : Clock). put id_cmp c.args.own.now (max c.in-Some.counter (count_of x c.args.own.now)) x.entries)
    c.self.view_is in (
      (raised_list c.args.self c.args.own.now c.in-Some.counter c.put_greater.new.entries.items c.in-Some.ensures
          c.as_str-text.ensures.id done).well,
      tt,
    )

pub returns-clause-counters : goal.returns-clause-counters
returns-clause-counters c =
    let done = c.in_ok-put_greater.ensures.entries
    ∙ ap (λ (x : Clock). put id_cmp c.args.own.now (max c.in-Some.counter (count_of x c.args.own.now)) x.entries)
    c.self.view_is in
    IsNext-entries c.args.self _ c.args.own.now
    (raised_list c.args.self c.args.own.now c.in-Some.counter c.put_greater.new.entries.items c.in-Some.ensures
    c.as_str-text.ensures.id done).raised

pub returns-clause-value : goal.returns-clause-value
returns-clause-value c =
    let done = c.in_ok-put_greater.ensures.entries
    ∙ ap (λ (x : Clock). put id_cmp c.args.own.now (max c.in-Some.counter (count_of x c.args.own.now)) x.entries)
    c.self.view_is in
    (raised_list c.args.self c.args.own.now c.in-Some.counter c.put_greater.new.entries.items c.in-Some.ensures
    c.as_str-text.ensures.id done).raised
