-- Each turn takes one item or one field, and the closing byte ends them.
use Rattle.std.proofs.Common.{◌≡◌, ◌-◌, ◌∙◌, drop, get_or, length, option_map, subst, take, arith}
use Rattle.content.specs.inner.Fronts.{FieldsBefore, ItemsBefore}
use Rattle.content.specs.Tree.{field, item, no_fields, no_items}
use Rattle.content.specs.TreeOf.{tree_of}
use Rattle.content.proofs.FlatTexts.{behind_first}
use Rattle.content.proofs.MadeTrees.{last_field, last_item, more_fields, more_items}
use Rattle.content.proofs.SpelledTexts.{field_more, item_more, one_field, one_item}
use Rattle.content.proofs.made.+made.Goals as goal

-- ---- items

pub made_items-items-preserved : goal.made_items-items-preserved
made_items-items-preserved t c =
    let behind = c.in_ok-item.behind.now in
    let tree = tree_of c.in_ok-item.item in
    let first : get_or behind 0 0 ≡ 44 = grind arith in
    let comma = behind_first behind 44 (omega arith) first in record {
      so_far = λ ts rest m. subst (λ all. ItemsBefore c.args.levels c.args.bytes.now all rest)
          (more_items c.items.found.items c.push.new.self.items c.in_ok-item.item ts c.in_ok-push.ensures.items)
          (c.items.invariant.so_far (item tree ts) rest
          (item_more c.args.levels c.items.left.now tree behind _ ts rest c.in_ok-item.ensures.value comma m));
      no_longer = grind arith;
    }

pub made_items-returns-in-93-behind-clause-items : goal.made_items-returns-in-93-behind-clause-items
made_items-returns-in-93-behind-clause-items t c =
    let behind = c.in_ok-item.behind.now in
    let tree = tree_of c.in_ok-item.item in
    let first : get_or behind 0 0 ≡ 93 = grind arith in
    let rest = take (length behind - 1) (drop 1 behind) in
    subst (λ all. ItemsBefore c.args.levels c.args.bytes.now all rest)
    (last_item c.items.found.items c.push.new.self.items c.in_ok-item.item c.in_ok-push.ensures.items)
    (c.items.invariant.so_far (item tree no_items) rest
    (one_item c.args.levels c.items.left.now tree behind rest c.in_ok-item.ensures.value
    (behind_first behind 93 (omega arith) first)))

-- ---- fields

pub made_fields-fields-preserved : goal.made_fields-fields-preserved
made_fields-fields-preserved t c =
    let behind = c.in_ok-value.behind.now in
    let tree = tree_of c.in_ok-value.value in
    let last = option_map (λ s. s.now) c.fields.last in
    let name = c.in-Some.name.now in
    let named = c.field_of-field.ensures.name ∙ c.in_ok-text_of.ensures in
    let first : get_or behind 0 0 ≡ 44 = grind arith in
    let comma = behind_first behind 44 (omega arith) first in record {
      so_far = λ fs rest m. subst (λ all. FieldsBefore c.args.levels c.args.bytes.now all rest)
          (more_fields c.fields.found.items c.push.new.self.items c.field_of-field.result name tree fs
          c.in_ok-push.ensures.items named c.field_of-field.ensures.value)
          (c.fields.invariant.so_far (field name tree fs) rest
          (field_more c.args.levels last c.fields.left.now name c.in-Some.text.now tree behind _ fs rest
          c.in-Some.ensures.named c.in_ok-value.ensures.value comma m));
      no_longer = grind arith;
    }

pub made_fields-returns-in-125-behind-clause-fields : goal.made_fields-returns-in-125-behind-clause-fields
made_fields-returns-in-125-behind-clause-fields t c =
    let behind = c.in_ok-value.behind.now in
    let tree = tree_of c.in_ok-value.value in
    let last = option_map (λ s. s.now) c.fields.last in
    let name = c.in-Some.name.now in
    let named = c.field_of-field.ensures.name ∙ c.in_ok-text_of.ensures in
    let first : get_or behind 0 0 ≡ 125 = grind arith in
    let rest = take (length behind - 1) (drop 1 behind) in
    subst (λ all. FieldsBefore c.args.levels c.args.bytes.now all rest)
    (last_field c.fields.found.items c.push.new.self.items c.field_of-field.result name tree c.in_ok-push.ensures.items
    named c.field_of-field.ensures.value)
    (c.fields.invariant.so_far (field name tree no_fields) rest
    (one_field c.args.levels last c.fields.left.now name c.in-Some.text.now tree behind rest c.in-Some.ensures.named
    c.in_ok-value.ensures.value (behind_first behind 125 (omega arith) first)))
