-- The pairs of the range are those that the walk takes.
use Rattle.std.proofs.Common.{length, option_copied, drop, take_while, ap, arith}
use Rattle.query_range.specs.Answers.{is_between}
use Rattle.query_range.specs.inner.Wanted.{takes}
use Rattle.query_range.proofs.Laws.{filtered, found}
use Rattle.query_range.proofs.Ranges.{range_run}
use Rattle.query_range.proofs.range.between.Goals as goal

pub returns-clause-found : goal.returns-clause-found
returns-clause-found g c =
    let start = option_copied c.args.start in
    let end = option_copied c.args.end in
    let ps = c.args.table.now.pairs in
    found (is_between start end) ps (take_while (λ p. takes c.up_to.result p.0) (drop c.start_of-from.result ps))
    (range_run start end ps c.start_of-from.result
    (takes c.up_to.result) c.up_to.ensures c.args.table.now.order c.start_of-from.ensures.place)
    c.args.table.now.order c.ids_from.result c.ids_from.ensures.ids

pub returns-clause-filtered : goal.returns-clause-filtered
returns-clause-filtered g c =
    let start = option_copied c.args.start in
    let end = option_copied c.args.end in
    let ps = c.args.table.now.pairs in
    filtered (is_between start end) ps (take_while (λ p. takes c.up_to.result p.0) (drop c.start_of-from.result ps))
    (range_run start end ps c.start_of-from.result
    (takes c.up_to.result) c.up_to.ensures c.args.table.now.order c.start_of-from.ensures.place)
    c.ids_from.result c.ids_from.ensures.ids

pub returns-clause-looks : goal.returns-clause-looks
returns-clause-looks g c k short =
    let as_many = ap length
    (range_run (option_copied c.args.start) (option_copied c.args.end) c.args.table.now.pairs c.start_of-from.result
    (takes c.up_to.result) c.up_to.ensures c.args.table.now.order c.start_of-from.ensures.place) in
    omega (arith, c.start_of-from.ensures.looks k short, c.ids_from.ensures.looks, as_many)
