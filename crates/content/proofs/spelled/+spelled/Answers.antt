-- Each turn takes one item or one field, and the closing byte ends them.
use Rattle.std.proofs.Common.{◌≡◌, get_or, option_map, arith}
use Rattle.content.specs.Tree.{field, item, no_fields, no_items}
use Rattle.content.proofs.FlatTexts.{behind_first}
use Rattle.content.proofs.SpelledTexts.{field_more, fields_begun, item_more, items_begun, list_value}
use Rattle.content.proofs.SpelledTexts.{no_fields_before, no_items_before, object_value, one_field, one_item}
use Rattle.content.proofs.spelled.+spelled.Goals as goal

-- ---- a value

pub behind_value-returns-in-123-clause-value : goal.behind_value-returns-in-123-clause-value
behind_value-returns-in-123-clause-value t c =
    let text = c.args.bytes.now in
    let first : get_or text 0 0 ≡ 123 = grind arith in
    object_value c.args.levels text _ c.behind_fields.result (behind_first text 123 (omega arith) first) (omega arith)
    c.behind_fields.ensures.fields

pub behind_value-returns-in-91-clause-value : goal.behind_value-returns-in-91-clause-value
behind_value-returns-in-91-clause-value t c =
    let text = c.args.bytes.now in
    let first : get_or text 0 0 ≡ 91 = grind arith in
    list_value c.args.levels text _ c.behind_items.result (behind_first text 91 (omega arith) first) (omega arith)
    c.behind_items.ensures.items

-- ---- items

pub behind_items-returns-in-93-clause-items : goal.behind_items-returns-in-93-clause-items
behind_items-returns-in-93-clause-items t c =
    let text = c.args.bytes.now in
    let first : get_or text 0 0 ≡ 93 = grind arith in
    (no_items, no_items_before c.args.levels text _ (behind_first text 93 (omega arith) first))

pub behind_items-items-init : goal.behind_items-items-init
behind_items-items-init t c = record {
  so_far = λ ts rest m. (ts, items_begun c.args.levels c.args.bytes.now ts rest m);
  no_longer = omega arith;
}

pub behind_items-items-preserved : goal.behind_items-items-preserved
behind_items-items-preserved t c =
    let behind = c.in_ok-behind.behind.now in
    let first : get_or behind 0 0 ≡ 44 = grind arith in
    let value = c.in_ok-behind.ensures.value in
    let comma = behind_first behind 44 (omega arith) first in record {
      so_far = λ ts rest m. c.items.invariant.so_far (item value.0 ts) rest
          (item_more c.args.levels c.items.left.now value.0 behind _ ts rest value.1 comma m);
      no_longer = grind arith;
    }

pub behind_items-returns-in-93-behind-clause-items : goal.behind_items-returns-in-93-behind-clause-items
behind_items-returns-in-93-behind-clause-items t c =
    let behind = c.in_ok-behind.behind.now in
    let first : get_or behind 0 0 ≡ 93 = grind arith in
    let value = c.in_ok-behind.ensures.value in
    c.items.invariant.so_far (item value.0 no_items) _
    (one_item c.args.levels c.items.left.now value.0 behind _ value.1 (behind_first behind 93 (omega arith) first))

-- ---- fields

pub behind_fields-returns-in-125-clause-fields : goal.behind_fields-returns-in-125-clause-fields
behind_fields-returns-in-125-clause-fields t c =
    let text = c.args.bytes.now in
    let first : get_or text 0 0 ≡ 125 = grind arith in
    (no_fields, no_fields_before c.args.levels text _ (behind_first text 125 (omega arith) first))

pub behind_fields-fields-init : goal.behind_fields-fields-init
behind_fields-fields-init t c = record {
  so_far = λ fs rest m. (fs, fields_begun c.args.levels c.args.bytes.now fs rest m);
  no_longer = omega arith;
}

pub behind_fields-fields-preserved : goal.behind_fields-fields-preserved
behind_fields-fields-preserved t c =
    let behind = c.in_ok-behind.behind.now in
    let last = option_map (λ s. s.now) c.fields.last in
    let name = c.in_ok-name.name.now in
    let value = c.in_ok-name.value.now in
    let first : get_or behind 0 0 ≡ 44 = grind arith in
    let tree = c.in_ok-behind.ensures.value in
    let comma = behind_first behind 44 (omega arith) first in record {
      so_far = λ fs rest m. c.fields.invariant.so_far (field name tree.0 fs) rest
          (field_more c.args.levels last c.fields.left.now name value tree.0 behind _ fs rest
          c.in_ok-name.ensures.named tree.1 comma m);
      no_longer = grind arith;
    }

pub behind_fields-returns-in-125-behind-clause-fields : goal.behind_fields-returns-in-125-behind-clause-fields
behind_fields-returns-in-125-behind-clause-fields t c =
    let behind = c.in_ok-behind.behind.now in
    let last = option_map (λ s. s.now) c.fields.last in
    let name = c.in_ok-name.name.now in
    let value = c.in_ok-name.value.now in
    let first : get_or behind 0 0 ≡ 125 = grind arith in
    let tree = c.in_ok-behind.ensures.value in
    c.fields.invariant.so_far (field name tree.0 no_fields) _
    (one_field c.args.levels last c.fields.left.now name value tree.0 behind _ c.in_ok-name.ensures.named tree.1
    (behind_first behind 125 (omega arith) first))
