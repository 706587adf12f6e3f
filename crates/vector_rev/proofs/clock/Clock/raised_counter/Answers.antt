-- A counter of a clock is below 2^63, and the tests left room for one more.
use Rattle.std.proofs.Common.{◌+◌, length, inl, inr, arith, ap}
use Rattle.vector_rev.proofs.ClockLaws.{count_of-small, few_entries}
use Rattle.vector_rev.proofs.clock.Clock.raised_counter.Goals as goal

pub overflow_add-result : goal.overflow_add-result
overflow_add-result c = omega (arith, c.count-count.ensures, count_of-small c.args.self.now c.args.own.now)

pub returns : goal.returns
returns c =
    let small = count_of-small c.args.self.now c.args.own.now in
    let few = few_entries c.args.self.now in
    record {
      raised = ap (λ n. n + 1) c.count-count.ensures;
      small = omega (arith, c.count-count.ensures, small);
      room = elim c.else-count-eq0.branch [
        | goal.else-count-eq0-via-then-count-eq0+else-entries-eq-MOST_CLOCK_ENTRIES w ↦
            inr (omega (arith, ap (λ es. length es) w.entries.ensures.value))
        | goal.else-count-eq0-via-else-count-eq0 w ↦ inl (omega (arith, c.count-count.ensures))
      ];
    }
