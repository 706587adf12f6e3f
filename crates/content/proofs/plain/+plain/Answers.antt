-- Each turn takes one item or one field, and the closing token ends them.
use Rattle.std.proofs.Common.{◌≡◌, ◌-◌, ◌<◌, ◌≤◌, ◌∷◌, length, Some, None, option_map, true, false}
use Rattle.std.proofs.Common.{refl, sym, ap, ap₂, ◌∙◌, arith, subst, rules}
use Rattle.json.specs.Token.{Token}
use Rattle.json.specs.Json as json
use Rattle.json.specs.Json.{parse_map, after_end_array, read_key, items, members, value}
use Rattle.json.specs.Reads.{token_of}
use Rattle.json.proofs.Grammar.{value_is}
use Rattle.serde_json.specs.Data as serde
use Rattle.serde_json.specs.Data.{no_members, put}
use Rattle.serde_json.specs.Find.{of_integer}
use Rattle.serde_json.specs.Read.{of_items, of_json, of_members, converted}
use Rattle.content.specs.Canonical.{data_of, fields_data, items_data}
use Rattle.content.specs.Faults.{any_in_items, any_in_members, is_large}
use Rattle.content.specs.Plain.{comes_after, more_levels}
use Rattle.content.specs.Tree.{fields_nesting, items_nesting}
use Rattle.content.specs.TreeOf.{fields_view, items_view, pair_of, tree_of}
use Rattle.content.specs.declared.value.Json.{Null, Bool, Text, List as AsList, Object, the_lemmas}
use Rattle.content.proofs.PlainTexts.{flat_read, list_read, object_read, items_before, items_before-no_items}
use Rattle.content.proofs.PlainTexts.{item_read, items_over, members_over, nesting_with_item, none_before}
use Rattle.content.proofs.PlainTexts.{none_with_item, one_more_field, one_more_item}
use Rattle.content.proofs.PutFields.{AllBefore, ascending_among, ascending_behind, put_last}
use Rattle.content.proofs.plain.+plain.Goals as goal

-- ---- items

pub plain_items-items-init : goal.plain_items-items-init
plain_items-items-init t c =
    let all = converted of_items
    (items (value (more_levels c.args.levels)) (length c.args.reader.now) c.args.reader.now) in
    let none = c.new-found.ensures.items in record {
      read = (
        length c.args.reader.now,
        omega arith,
        none_before all ∙ ap (λ js. parse_map (items_before js) all) (sym none),
      );
      no_longer = omega arith;
      shallow = omega (arith, ap (λ js. items_nesting (items_view js)) none);
      small = ap (λ js. any_in_items is_large (items_data (items_view js))) none;
    }

pub plain_items-items-preserved : goal.plain_items-items-preserved
plain_items-items-preserved t c =
    let p = value (more_levels c.args.levels) in
    let l = c.items in
    let n = l.invariant.read.0 in
    let going : (after_end_array l.reader ≡ None) × (c.take_end_array.new.self ≡ l.reader) = grind arith in
    let done = c.in_ok-item.ensures in
    let j = c.in_ok-item.item in
    let r = c.plain_value.new.reader in
    let less : length r < length l.reader = rw (← going.1) done.shorter in
    let turn = item_read p n l.reader r (data_of (tree_of j)) (omega (arith, l.invariant.read.1)) going.0
    (rw (← going.1) done.value) in
    let pushed = c.in_ok-push.ensures.items in record {
      read = (
        n - 1,
        omega (arith, l.invariant.read.1),
        l.invariant.read.2 ∙ ap (parse_map (items_before l.found.items)) turn ∙ one_more_item l.found.items j _
            ∙ ap (λ js. parse_map (items_before js) (converted of_items (items p (n - 1) r))) (sym pushed),
      );
      no_longer = omega (arith, l.invariant.no_longer);
      shallow = subst (λ js. items_nesting (items_view js) ≤ c.args.levels) (sym pushed)
          (nesting_with_item l.found.items j c.args.levels l.invariant.shallow done.shallow);
      small = ap (λ js. any_in_items is_large (items_data (items_view js))) pushed
          ∙ none_with_item is_large l.found.items j l.invariant.small done.small;
    }

-- ---- fields

pub plain_fields-fields-init : goal.plain_fields-fields-init
plain_fields-fields-init t c =
    let all = members (value (more_levels c.args.levels)) (length c.args.reader.now) c.args.reader.now in
    let none = c.new-found.ensures.items in record {
      so_far = record {
        read = (
          length c.args.reader.now,
          omega arith,
          ap (λ fs. converted (λ ms. of_members ms (fields_data (fields_view fs))) all) (sym none),
        );
        no_longer = omega arith;
        shallow = omega (arith, ap (λ fs. fields_nesting (fields_view fs)) none);
        small = ap (λ fs. any_in_members is_large (fields_data (fields_view fs))) none;
      };
      ascending = λ k e. subst (λ fs. AllBefore k (fields_data (fields_view fs))) (sym none) tt;
    }

pub plain_fields-fields-preserved-then-comes_after : goal.plain_fields-fields-preserved-then-comes_after
plain_fields-fields-preserved-then-comes_after t c =
    let l = c.fields in
    let old = fields_view l.found.items in
    let new = fields_view c.push.new.self.items in
    let k = c.in-Some.name.now in
    let named : read_key l.reader ≡ Some (Some k, c.next_key.new.self) = grind arith in
    let done = c.in_ok-value.ensures in
    let value = tree_of c.in_ok-value.value in
    let f = c.field_of-field.result in
    let name : (pair_of f).0 ≡ k = search rules in
    let same : (pair_of f).1 ≡ value = c.field_of-field.ensures.value in
    let behind : comes_after (option_map (λ s. s.now) l.last) k ≡ true = grind arith in
    let before : AllBefore k (fields_data old) = l.invariant.ascending k behind in
    let pushed = c.in_ok-push.ensures.items in
    let placed : put k (data_of value) (fields_data old) ≡ fields_data new =
    ap₂ (λ m u. put m (data_of u) (fields_data old)) (sym name) (sym same)
    ∙ put_last l.found.items f (subst (λ m. AllBefore m (fields_data old)) (sym name) before)
    ∙ ap (λ fs. fields_data (fields_view fs)) (sym pushed) in record {
      so_far = one_more_field c.args.levels c.args.reader.now l.reader c.next_key.new.self c.plain_value.new.reader k
          value old new l.invariant.so_far named done.value done.shorter done.shallow done.small placed;
      ascending = ascending_behind k (data_of value) (fields_data old) (fields_data new) placed before;
    }

pub plain_fields-fields-preserved : goal.plain_fields-fields-preserved
plain_fields-fields-preserved t c =
    let l = c.fields in
    let old = fields_view l.found.items in
    let new = fields_view c.put_field.new.fields.items in
    let k = c.in-Some.name.now in
    let named : read_key l.reader ≡ Some (Some k, c.next_key.new.self) = grind arith in
    let done = c.in_ok-value.ensures in
    let value = tree_of c.in_ok-value.value in
    let f = c.field_of-field.result in
    let name : (pair_of f).0 ≡ k = search rules in
    let same : (pair_of f).1 ≡ value = c.field_of-field.ensures.value in
    let falls : comes_after (option_map (λ s. s.now) l.last) k ≡ false = grind arith in
    let placed : put k (data_of value) (fields_data old) ≡ fields_data new =
    ap₂ (λ m u. put m (data_of u) (fields_data old)) (sym name) (sym same) ∙ sym c.in_ok-put_field.ensures in record {
      so_far = one_more_field c.args.levels c.args.reader.now l.reader c.next_key.new.self c.plain_value.new.reader k
          value old new l.invariant.so_far named done.value done.shorter done.shallow done.small placed;
      ascending = ascending_among (option_map (λ s. s.now) l.last) k (data_of value) (fields_data old)
          (fields_data new) placed falls l.invariant.ascending;
    }

-- ---- a value

pub plain_value-returns-in-Null-clause-value : goal.plain_value-returns-in-Null-clause-value
plain_value-returns-in-Null-clause-value t c =
    let first : c.args.reader.now ≡ Token.null ∷ c.next.new.self = grind arith in
    let seen : data_of (tree_of Null) ≡ serde.null = search (rules, the_lemmas) in
    flat_read (more_levels c.args.levels) Token.null json.null c.args.reader.now c.next.new.self serde.null first
    (λ ts. value_is (more_levels c.args.levels) (Token.null ∷ ts)) refl ∙ ap (λ d. Some (d, c.next.new.self)) (sym seen)

pub plain_value-returns-in-Bool-clause-value : goal.plain_value-returns-in-Bool-clause-value
plain_value-returns-in-Bool-clause-value t c =
    let b = c.in-Bool.truth in
    let first : c.args.reader.now ≡ token_of c.in_ok-token.token ∷ c.next.new.self = grind arith in
    let is : c.args.reader.now ≡ Token.boolean b ∷ c.next.new.self =
    first ∙ ap (λ k. token_of k ∷ c.next.new.self) c.in-Bool.is in
    let seen : data_of (tree_of (Bool b)) ≡ serde.boolean b = search (rules, the_lemmas) in
    flat_read (more_levels c.args.levels) (Token.boolean b) (json.boolean b) c.args.reader.now c.next.new.self
    (serde.boolean b) is (λ ts. value_is (more_levels c.args.levels) (Token.boolean b ∷ ts)) refl
    ∙ ap (λ d. Some (d, c.next.new.self)) (sym seen)

pub plain_value-returns-in_ok-copy-in-String-clause-value : goal.plain_value-returns-in_ok-copy-in-String-clause-value
plain_value-returns-in_ok-copy-in-String-clause-value t c =
    let s = c.in-String.text.now in
    let first : c.args.reader.now ≡ token_of c.in_ok-token.token ∷ c.next.new.self = grind arith in
    let is : c.args.reader.now ≡ Token.string s ∷ c.next.new.self =
    first ∙ ap (λ k. token_of k ∷ c.next.new.self) c.in-String.is in
    let seen : data_of (tree_of (Text c.in_ok-copy-in-String.field-0)) ≡ serde.string s = search (rules, the_lemmas) in
    flat_read (more_levels c.args.levels) (Token.string s) (json.string s) c.args.reader.now c.next.new.self
    (serde.string s) is (λ ts. value_is (more_levels c.args.levels) (Token.string s ∷ ts)) refl
    ∙ ap (λ d. Some (d, c.next.new.self)) (sym seen)

pub plain_value-returns-in-Some-clause-value : goal.plain_value-returns-in-Some-clause-value
plain_value-returns-in-Some-clause-value t c =
    let s = c.in-Number.text.now in
    let z = c.in-Some.number in
    let first : c.args.reader.now ≡ token_of c.in_ok-token.token ∷ c.next.new.self = grind arith in
    let is : c.args.reader.now ≡ Token.number s ∷ c.next.new.self =
    first ∙ ap (λ k. token_of k ∷ c.next.new.self) c.in-Number.is in
    let seen : data_of (tree_of c.json_of.result) ≡ serde.number (of_integer z) =
    search (rules, c.json_of.ensures.value) in
    flat_read (more_levels c.args.levels) (Token.number s) (json.number s) c.args.reader.now c.next.new.self
    (serde.number (of_integer z)) is (λ ts. value_is (more_levels c.args.levels) (Token.number s ∷ ts))
    (ap (option_map serde.number) c.in-Some.ensures) ∙ ap (λ d. Some (d, c.next.new.self)) (sym seen)

pub plain_value-returns-in_ok-plain_items-in-BeginArray-clause-value :
    goal.plain_value-returns-in_ok-plain_items-in-BeginArray-clause-value
plain_value-returns-in_ok-plain_items-in-BeginArray-clause-value t c =
    let ts = c.next.new.self in
    let first : c.args.reader.now ≡ token_of c.in_ok-token.token ∷ ts = grind arith in
    let is : c.args.reader.now ≡ Token.begin_array ∷ ts = first ∙ ap (λ k. token_of k ∷ ts) c.in-BeginArray.is in
    let v = c.in_ok-plain_items-in-BeginArray.field-0 in
    let seen : data_of (tree_of (AsList v)) ≡ serde.array (items_data (items_view v.items)) =
    search (rules, the_lemmas) in
    ap (λ all. converted of_json (value (more_levels c.args.levels) all)) is
    ∙ list_read c.args.levels ts c.plain_items.new.reader (items_data (items_view v.items)) (omega arith)
    c.in_ok-plain_items-in-BeginArray.ensures.value
    ∙ ap (λ d. Some (d, c.plain_items.new.reader)) (sym seen)

pub plain_value-returns-in_ok-plain_fields-in-BeginObject-clause-value :
    goal.plain_value-returns-in_ok-plain_fields-in-BeginObject-clause-value
plain_value-returns-in_ok-plain_fields-in-BeginObject-clause-value t c =
    let ts = c.next.new.self in
    let first : c.args.reader.now ≡ token_of c.in_ok-token.token ∷ ts = grind arith in
    let is : c.args.reader.now ≡ Token.begin_object ∷ ts = first ∙ ap (λ k. token_of k ∷ ts) c.in-BeginObject.is in
    let v = c.in_ok-plain_fields-in-BeginObject.field-0 in
    let seen : data_of (tree_of (Object v)) ≡ serde.object (fields_data (fields_view v.items)) =
    search (rules, the_lemmas) in
    ap (λ all. converted of_json (value (more_levels c.args.levels) all)) is
    ∙ object_read c.args.levels ts c.plain_fields.new.reader (fields_data (fields_view v.items)) (omega arith)
    c.in_ok-plain_fields-in-BeginObject.ensures.value
    ∙ ap (λ d. Some (d, c.plain_fields.new.reader)) (sym seen)

-- ---- the ends of the loops

pub plain_items-returns-clause-value : goal.plain_items-returns-clause-value
plain_items-returns-clause-value t c =
    let p = value (more_levels c.args.levels) in
    let l = c.items in
    let r = c.take_end_array.new.self in
    l.invariant.read.2 ∙ ap (parse_map (items_before l.found.items)) (items_over p l.invariant.read.0 l.reader r
    l.invariant.read.1 (grind arith)) ∙ ap (λ ds. Some (ds, r)) (items_before-no_items l.found.items)
    ∙ ap (λ js. Some (items_data (items_view js), r)) (sym c.shrink_to_fit.ensures.items)

pub plain_fields-returns-clause-value : goal.plain_fields-returns-clause-value
plain_fields-returns-clause-value t c =
    let p = value (more_levels c.args.levels) in
    let l = c.fields in
    let r = c.next_key.new.self in
    let read = l.invariant.so_far.read in
    read.2 ∙ members_over p (fields_data (fields_view l.found.items)) read.0 l.reader r read.1 (grind arith)
    ∙ ap (λ fs. Some (fields_data (fields_view fs), r)) (sym c.shrink_to_fit.ensures.items)
