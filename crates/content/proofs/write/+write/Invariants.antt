use Rattle.std.proofs.Common.{◌≡◌, ◌++◌, drop}
use Rattle.json.specs.Tree.{items_tokens, members_tokens}
use Rattle.serde_json.specs.Written.{items_outline, members_outline}
use Rattle.content.specs.Canonical.{items_data, fields_data}
use Rattle.content.specs.TreeOf.{items_view, fields_view}
use Rattle.content.proofs.write.+write.Given as goal

abbrev pub invariant-write_items-loop-item : goal.invariant-write_items-loop-item
invariant-write_items-loop-item l =
    (l.out.before ≡ l.initial.out.before)
    × (l.out.tokens ++ items_tokens (items_outline (items_data (items_view (drop l.item-index l.item-items))))
    ≡ l.initial.out.tokens ++ items_tokens (items_outline (items_data (items_view l.item-items))))

abbrev pub invariant-write_fields-loop-field : goal.invariant-write_fields-loop-field
invariant-write_fields-loop-field l =
    (l.out.before ≡ l.initial.out.before)
    × (l.out.tokens ++ members_tokens (members_outline (fields_data (fields_view (drop l.field-index l.field-items))))
    ≡ l.initial.out.tokens ++ members_tokens (members_outline (fields_data (fields_view l.field-items))))
