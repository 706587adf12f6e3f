use Rattle.std.proofs.Common.{◌≡◌, ◌++◌, drop}
use Rattle.content.specs.TreeOf.{fields_view, items_view}
use Rattle.expr_eval.specs.Fields.{item_values, member_values}
use Rattle.expr_eval.proofs.field.+fields.Given as goal

abbrev pub invariant-add_item_values-loop-item : goal.invariant-add_item_values-loop-item
invariant-add_item_values-loop-item l =
    l.out.items ++ item_values (items_view (drop l.item-index l.item-items)) l.parts ≡ l.initial.out.items
    ++ item_values (items_view l.item-items) l.parts

abbrev pub invariant-add_member_values-loop-field : goal.invariant-add_member_values-loop-field
invariant-add_member_values-loop-field l = record {
  out : l.out.items ≡ l.initial.out.items;
  left : member_values (fields_view (drop l.field-index l.field-items)) l.name l.parts
      ≡ member_values (fields_view l.field-items) l.name l.parts;
}
