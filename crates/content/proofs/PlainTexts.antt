-- The grammar's loops over a plain text, a turn at a time, beside the lists and objects that are made of it.
use Rattle.std.proofs.Common.{◌≡◌, ℕ, ◌+◌, ◌-◌, ◌<◌, ◌≤◌, Bool, false, List, [], ◌∷◌, ◌++◌, length}
use Rattle.std.proofs.Common.{Option, Some, None, option_map, option_and_then, IsUtf8, refl, ap, ◌∙◌, arith}
use Rattle.std.proofs.lemmas.Bool.{or_parts, or_from}
use Rattle.std.proofs.lemmas.Str.{is_utf8-from_IsUtf8}
use Rattle.json.specs.Token.{Token}
use Rattle.json.specs.Lex.{tokens}
use Rattle.json.specs.Json as json
use Rattle.json.specs.Json.{Parse, parse_map, after_end_array, read_key, if_last, items, members, value}
use Rattle.json.proofs.Grammar.{items_end, items_more, members_end, members_more, read_key-shorter}
use Rattle.json.proofs.Grammar.{value-begin_array, value-begin_object}
use Rattle.serde_json.specs.Data.{Num, Data, array, object, Items, no_items, item, Members, no_members, put}
use Rattle.serde_json.specs.Read.{converted, of_json, of_items, of_members}
use Rattle.content.specs.Canonical.{data_of, items_data, fields_data}
use Rattle.content.specs.Faults.{any_number, any_in_items, any_in_members, is_large, value_of}
use Rattle.content.specs.Plain.{more_levels}
use Rattle.content.specs.Tree.{Tree, Fields, nesting, items_nesting, fields_nesting}
use Rattle.content.specs.TreeOf.{tree_of, items_view}
use Rattle.content.specs.declared.value.Json.{Json}
use Rattle.content.proofs.PutFields.{nesting_put, none_with}

-- ---- what was read, under the conversion to data

abbrev pick : {A : Type 0} → A → Option A → A
pick d None = d
pick d (Some a) = a

found : {A B : Type 0} (a : A) (r s : List Token) (x : Option B) (b : B)
    → option_map {U = B × List Token} (λ y. (y, r)) x ≡ Some (b, s) → (r ≡ s) × (x ≡ Some b)
found a r s None b e = absurd (cc)
found a r s (Some y) b e = let same = ap (pick (y, r)) e in (ap (λ p. p.1) same, ap (λ p. Some p.0) same)

converted_some : {A B : Type 0} (f : A → Option B) (o : Option (A × List Token)) (b : B) (r : List Token)
    → converted f o ≡ Some (b, r) → (a : A) × (o ≡ Some (a, r)) × (f a ≡ Some b)
converted_some f None b r e = absurd (cc)
converted_some f (Some p) b r e =
    let both = found p.0 p.1 r (f p.0) b e in
    (p.0, ap (λ s. Some (p.0, s)) both.0, both.1)

twice : {A B : Type 0} (g : A → B) (r : List Token) (x : Option A)
    → option_map (λ b. (b, r)) (option_map g x) ≡ parse_map g (option_map (λ a. (a, r)) x)
twice g r None = refl
twice g r (Some a) = refl

converted-array : (o : Option (json.Items × List Token))
    → converted of_json (parse_map json.array o) ≡ parse_map array (converted of_items o)
converted-array None = refl
converted-array (Some p) = twice array p.1 (of_items p.0)

converted-object : (o : Option (json.Members × List Token))
    → converted of_json (parse_map json.object o) ≡ parse_map object (converted (λ ms. of_members ms no_members) o)
converted-object None = refl
converted-object (Some p) = twice object p.1 (of_members p.0 no_members)

with_item : (j : json.Json) (d : Data) → of_json j ≡ Some d → (o : Option (json.Items × List Token))
    → converted of_items (parse_map (json.item j) o) ≡ parse_map (item d) (converted of_items o)
with_item j d e None = refl
with_item j d e (Some p) = rw e (twice (item d) p.1 (of_items p.0))

with_member : (k : List ℕ) (j : json.Json) (d : Data) (old : Members) → of_json j ≡ Some d
    → (o : Option (json.Members × List Token))
    → converted (λ ms. of_members ms old) (parse_map (json.member k j) o)
    ≡ converted (λ ms. of_members ms (put k d old)) o
with_member k j d old e None = refl
with_member k j d old e (Some p) = rw e

module _ (p : Parse json.Json) where
  pub item_read : (n : ℕ) (ts r : List Token) (d : Data) → 0 < n → after_end_array ts ≡ None
      → converted of_json (p ts) ≡ Some (d, r)
      → converted of_items (items p n ts) ≡ parse_map (item d) (converted of_items (items p (n - 1) r))
  item_read n ts r d some going e =
      let j = converted_some of_json (p ts) d r e in
      ap (converted of_items) (items_more p n ts r j.0 some going j.1) ∙ with_item j.0 d j.2 _

  pub items_over : (n : ℕ) (ts r : List Token) → length ts ≤ n → after_end_array ts ≡ Some r
      → converted of_items (items p n ts) ≡ Some (no_items, r)
  items_over n ts r enough e = ap (converted of_items) (items_end p n ts r enough e)

  member_read : (old : Members) (n : ℕ) (k : List ℕ) (ts s r : List Token) (d : Data) → 0 < n
      → read_key ts ≡ Some (Some k, s) → converted of_json (p s) ≡ Some (d, r)
      → converted (λ ms. of_members ms old) (members p n ts)
      ≡ converted (λ ms. of_members ms (put k d old)) (members p (n - 1) r)
  member_read old n k ts s r d some key e =
      let j = converted_some of_json (p s) d r e in
      ap (converted (λ ms. of_members ms old)) (members_more p n k ts s r j.0 some key j.1)
      ∙ with_member k j.0 d old j.2 _

  pub members_over : (old : Members) (n : ℕ) (ts r : List Token) → length ts ≤ n → read_key ts ≡ Some (None, r)
      → converted (λ ms. of_members ms old) (members p n ts) ≡ Some (old, r)
  members_over old n ts r enough e = ap (converted (λ ms. of_members ms old)) (members_end p n ts r enough e)

-- ---- a value

pub flat_read : (depth : ℕ) (t : Token) (j : json.Json) (all r : List Token) (d : Data) → all ≡ t ∷ r
    → ((ts : List Token) → value depth (t ∷ ts) ≡ Some (j, ts)) → of_json j ≡ Some d
    → converted of_json (value depth all) ≡ Some (d, r)
flat_read depth t j all r d is reads e =
    ap (λ ts. converted of_json (value depth ts)) is ∙ ap (converted of_json) (reads r)
    ∙ ap (option_map (λ b. (b, r))) e

pub list_read : (levels : ℕ) (ts r : List Token) (ds : Items) → 0 < levels
    → converted of_items (items (value (more_levels (levels - 1))) (length ts) ts) ≡ Some (ds, r)
    → converted of_json (value (more_levels levels) (Token.begin_array ∷ ts)) ≡ Some (array ds, r)
list_read levels ts r ds some e =
    let deeper : levels + 63 - 1 ≡ levels - 1 + 63 = omega (arith, some) in
    let opens : 0 < levels + 63 = omega arith in
    ap (converted of_json) (value-begin_array (levels + 63) ts opens)
    ∙ converted-array (items (value (levels + 63 - 1)) (length ts) ts)
    ∙ ap (λ m. parse_map array (converted of_items (items (value m) (length ts) ts))) deeper ∙ ap (parse_map array) e

pub object_read : (levels : ℕ) (ts r : List Token) (ms : Members) → 0 < levels
    → converted (λ ms. of_members ms no_members) (members (value (more_levels (levels - 1))) (length ts) ts)
    ≡ Some (ms, r)
    → converted of_json (value (more_levels levels) (Token.begin_object ∷ ts)) ≡ Some (object ms, r)
object_read levels ts r ms some e =
    let deeper : levels + 63 - 1 ≡ levels - 1 + 63 = omega (arith, some) in
    let opens : 0 < levels + 63 = omega arith in
    ap (converted of_json) (value-begin_object (levels + 63) ts opens)
    ∙ converted-object (members (value (levels + 63 - 1)) (length ts) ts)
    ∙ ap (λ m. parse_map object (converted (λ ms. of_members ms no_members) (members (value m) (length ts) ts))) deeper
    ∙ ap (parse_map object) e

-- ---- a list that grows at its end

abbrev pub items_before : List Json → Items → Items
items_before [] rest = rest
items_before (j ∷ js) rest = item (data_of (tree_of j)) (items_before js rest)

pub items_before-no_items : (js : List Json) → items_before js no_items ≡ items_data (items_view js)
items_before-no_items [] = refl
items_before-no_items (j ∷ js) = ap (item (data_of (tree_of j))) (items_before-no_items js)

items_push : (js : List Json) (j : Json) (rest : Items)
    → items_before js (item (data_of (tree_of j)) rest) ≡ items_before (js ++ j ∷ []) rest
items_push [] j rest = refl
items_push (i ∷ js) j rest = ap (item (data_of (tree_of i))) (items_push js j rest)

pub one_more_item : (js : List Json) (j : Json) (r : Option (Items × List Token))
    → parse_map (items_before js) (parse_map (item (data_of (tree_of j))) r)
    ≡ parse_map (items_before (js ++ j ∷ [])) r
one_more_item js j None = refl
one_more_item js j (Some p) = ap (λ ds. Some (ds, p.1)) (items_push js j p.0)

pub none_before : (r : Option (Items × List Token)) → r ≡ parse_map (λ a. a) r
none_before None = refl
none_before (Some p) = refl

pub nesting_with_item : (js : List Json) (j : Json) (n : ℕ) → items_nesting (items_view js) ≤ n
    → nesting (tree_of j) ≤ n → items_nesting (items_view (js ++ j ∷ [])) ≤ n
nesting_with_item [] j n old new = omega (arith, new)
nesting_with_item (i ∷ js) j n old new =
    let first : nesting (tree_of i) ≤ n = omega (arith, old) in
    let others : items_nesting (items_view js) ≤ n = omega (arith, old) in
    omega (arith, first, nesting_with_item js j n others new)

pub none_with_item : (p : Num → Bool) (js : List Json) (j : Json) → any_in_items p (items_data (items_view js)) ≡ false
    → any_number p (data_of (tree_of j)) ≡ false → any_in_items p (items_data (items_view (js ++ j ∷ []))) ≡ false
none_with_item p [] j old new = or_from (any_number p (data_of (tree_of j))) false new refl
none_with_item p (i ∷ js) j old new =
    let parts = or_parts (any_number p (data_of (tree_of i))) (any_in_items p (items_data (items_view js))) old in
    or_from _ _ parts.0 (none_with_item p js j parts.1 new)

-- ---- an object that grows

-- what the loop over fields has read, from the tokens at its start to the rest
pub record ReadsFields (levels : ℕ) (start rest : List Token) (fs : Fields) : Type 0 where
  pub read : (n : ℕ) × (length rest ≤ n)
      × (converted (λ ms. of_members ms no_members) (members (value (more_levels levels)) (length start) start)
      ≡ converted (λ ms. of_members ms (fields_data fs)) (members (value (more_levels levels)) n rest))
  pub no_longer : length rest ≤ length start
  pub shallow : fields_nesting fs ≤ levels
  pub small : any_in_members is_large (fields_data fs) ≡ false

-- a turn puts one field among those before it
pub one_more_field : (levels : ℕ) (start ts s r : List Token) (k : List ℕ) (t : Tree) (old new : Fields)
    → ReadsFields levels start ts old → read_key ts ≡ Some (Some k, s)
    → converted of_json (value (more_levels levels) s) ≡ Some (data_of t, r) → length r < length s
    → nesting t ≤ levels → any_number is_large (data_of t) ≡ false
    → put k (data_of t) (fields_data old) ≡ fields_data new → ReadsFields levels start r new
one_more_field levels start ts s r k t old new so_far named reads shorter shallow small is =
    let p = value (more_levels levels) in
    let n = so_far.read.0 in
    let less = read_key-shorter ts (Some k) s named in record {
      read = (
        n - 1,
        omega (arith, so_far.read.1, less, shorter),
        so_far.read.2
            ∙ member_read p (fields_data old) n k ts s r (data_of t) (omega (arith, so_far.read.1, less)) named reads
            ∙ ap (λ found. converted (λ ms. of_members ms found) (members p (n - 1) r)) is,
      );
      no_longer = omega (arith, so_far.no_longer, less, shorter);
      shallow = nesting_put k t old new levels is so_far.shallow shallow;
      small = none_with is_large k (data_of t) (fields_data old) (fields_data new) is so_far.small small;
    }

-- ---- the whole text

abbrev whole : Option (json.Json × List Token) → Option Data
whole o = option_and_then of_json (option_and_then (λ p. if_last p.0 p.1) o)

whole_read : (o : Option (json.Json × List Token)) (d : Data) → converted of_json o ≡ Some (d, []) → whole o ≡ Some d
whole_read o d e = let j = converted_some of_json o d [] e in ap whole j.1 ∙ j.2

pub value_of_read : (bytes : List ℕ) (d : Data) → IsUtf8 bytes
    → converted of_json (value 127 (tokens bytes)) ≡ Some (d, []) → value_of bytes ≡ Some d
value_of_read bytes d h e = rw (is_utf8-from_IsUtf8 bytes h) (whole_read (value 127 (tokens bytes)) d e)
