-- The search goes by an order that ties just at equal clocks.
use Rattle.std.proofs.Common.{rules, of_calls, ◌∙◌}
use Rattle.std.proofs.lemmas.Fn.{always_returns_same}
use Rattle.conflicts.specs.Names.{clock_cmp}
use Rattle.conflicts.proofs.ClockOrder.{search_decides}
use Rattle.conflicts.proofs.names.is_found.Goals as goal

pub returns : goal.returns
returns c =
    c.is_ok.ensures.value
    ∙ search_decides c.args.sorted.now c.args.rev.now c.args.rev c.binary_search_by.result c.requires
    c.binary_search_by.ensures.bound
    (c.binary_search_by.ensures.position (λ n. clock_cmp n.now c.args.rev.now)
    (always_returns_same _ _ _ (λ a r f k. search (rules, of_calls))))
