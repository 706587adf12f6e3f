-- The sort goes by the order of clocks, and only moves the names.
use Rattle.std.specs.Borrow.{Bor}
use Rattle.std.proofs.Common.{rules}
use Rattle.std.proofs.lemmas.List.Sorted.{answers_always, ranks_by}
use Rattle.vector_rev.specs.Clock.{Clock}
use Rattle.conflicts.specs.Names.{is_before}
use Rattle.conflicts.proofs.ClockOrder.{clock_cmp_total, names_sorted}
use Rattle.conflicts.proofs.names.sorted_names.Goals as goal

pub returns-clause-rising : goal.returns-clause-rising
returns-clause-rising c =
    c.sort_unstable_by.ensures.sorted is_before (ranks_by clock_cmp_total (λ (n : Bor Clock). n.now))
    (answers_always _ _ _ (λ f a r q k. search rules))

pub returns-clause-these : goal.returns-clause-these
returns-clause-these c =
    names_sorted c.args.all.now c.in_ok-sorted.sorted.items c.sort_unstable_by.new.self.items c.in_ok-sorted.ensures
    c.sort_unstable_by.ensures.permutation
