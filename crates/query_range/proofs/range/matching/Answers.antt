-- The pairs whose keys meet the pattern are those that the walk takes.
use Rattle.std.proofs.Common.{ℕ, List, length, drop, take_while, ap, arith, subst, ◌∙◌}
use Rattle.index_tables.specs.Order.{FallsAt}
use Rattle.query_range.specs.Patterns.{meets}
use Rattle.query_range.proofs.Laws.{filtered, found}
use Rattle.query_range.proofs.Ranges.{pattern_run}
use Rattle.query_range.proofs.range.matching.Goals as goal

pub returns-clause-found : goal.returns-clause-found
returns-clause-found g c =
    let parts = c.args.pattern.now in
    let ps = c.args.table.now.pairs in
    found (meets parts) ps (take_while (λ p. meets parts p.0) (drop c.seek-from.result ps))
    (pattern_run parts ps c.seek-from.result c.floor.ensures.pattern c.requires.width c.args.table.now.order
    (subst (λ (k : List (List ℕ)). FallsAt ps k c.seek-from.result)
    (c.as_slice.ensures ∙ c.in_ok-floor.ensures.texts) c.seek-from.ensures.place))
    c.args.table.now.order c.ids_from.result c.ids_from.ensures.ids

pub returns-clause-filtered : goal.returns-clause-filtered
returns-clause-filtered g c =
    let parts = c.args.pattern.now in
    let ps = c.args.table.now.pairs in
    filtered (meets parts) ps (take_while (λ p. meets parts p.0) (drop c.seek-from.result ps))
    (pattern_run parts ps c.seek-from.result c.floor.ensures.pattern c.requires.width c.args.table.now.order
    (subst (λ (k : List (List ℕ)). FallsAt ps k c.seek-from.result)
    (c.as_slice.ensures ∙ c.in_ok-floor.ensures.texts) c.seek-from.ensures.place))
    c.ids_from.result c.ids_from.ensures.ids

pub returns-clause-looks : goal.returns-clause-looks
returns-clause-looks g c k short =
    let as_many = ap length
    (pattern_run c.args.pattern.now c.args.table.now.pairs c.seek-from.result c.floor.ensures.pattern c.requires.width
    c.args.table.now.order (subst (λ (t : List (List ℕ)). FallsAt c.args.table.now.pairs t c.seek-from.result)
    (c.as_slice.ensures ∙ c.in_ok-floor.ensures.texts) c.seek-from.ensures.place)) in
    omega (arith, c.seek-from.ensures.looks k short, c.ids_from.ensures.looks, as_many)
