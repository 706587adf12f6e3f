use Rattle.std.proofs.Common.{◌≡◌, ◌++◌, drop}
use Rattle.content.specs.TreeOf.{items_view}
use Rattle.expr_eval.specs.Fields.{own_values}
use Rattle.expr_eval.proofs.field.add_own_values.Given as goal

abbrev pub invariant-loop-item : goal.invariant-loop-item
invariant-loop-item l = l.out.items ++ own_values (items_view (drop l.item-index l.item-items)) ≡ l.initial.out.items
    ++ own_values (items_view l.item-items)
