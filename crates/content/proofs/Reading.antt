-- What a text reads as: one content, which its canonical text reads as again.
use Rattle.std.proofs.Common.{◌≡◌, ℕ, ℤ, pos, negsuc, Bool, true, false, cond, not, nat_lt, is_none, is_some, List}
use Rattle.std.proofs.Common.{length, Option, Some, None, option_map, IsUtf8, refl, ap, ap₂, sym, ◌∙◌}
use Rattle.std.specs.Prelude.{◌↔◌}
use Rattle.std.proofs.lemmas.Bool.{or_parts, cond-true, cond-false, ltb-false}
use Rattle.std.proofs.lemmas.Str.{IsUtf8-from_is_utf8}
use Rattle.std.specs.Str.{is_utf8}
use Rattle.serde_json.specs.Data as json
use Rattle.serde_json.specs.Find.{of_integer, is_float, as_object}
use Rattle.serde_json.specs.Read.{read}
use Rattle.content.specs.Tree.{Tree, null, boolean, whole, text, list, object, Items, no_items, item, Fields, no_fields}
use Rattle.content.specs.Tree.{field}
use Rattle.content.specs.Canonical.{data_of, items_data, fields_data, canonical}
use Rattle.content.specs.Contents.{IsContent, most_bytes, most_depth}
use Rattle.content.specs.Faults.{any_number, any_in_items, any_in_members, is_large, fault_of, fault_of_reading}
use Rattle.content.specs.Faults.{fault_of_value, value_of, Reads}
use Rattle.content.specs.Reading.{whole_in, tree_in, items_in, fields_in, content_in}
use Rattle.content.specs.declared.fault.ContentFault.{ContentFault}
use Rattle.content.specs.declared.fault.ContentFault.TheVariants.{TooBig}
use Rattle.content.proofs.CanonicalTexts.{Reads-canonical, IsContent-read, none_of, read-value_of}
use Rattle.content.proofs.Utf8Texts.{HasTexts-read}
use Rattle.content.proofs.Ordered.{IsInRange, IsOrdered, AreOrdered, HasOrderedMembers, IsOrdered-read}

-- ---- a tree is the tree of its own value

pub whole_back : (z : ℤ) → whole_in (of_integer z) ≡ z
whole_back (pos n) = refl
whole_back (negsuc n) = refl

mutual
  pub tree_back : (t : Tree) → tree_in (data_of t) ≡ t
  tree_back null = refl
  tree_back (boolean b) = refl
  tree_back (whole z) = ap whole (whole_back z)
  tree_back (text s) = refl
  tree_back (list ts) = ap list (items_back ts)
  tree_back (object fs) = ap object (fields_back fs)

  items_back : (ts : Items) → items_in (items_data ts) ≡ ts
  items_back no_items = refl
  items_back (item t ts) = ap₂ item (tree_back t) (items_back ts)

  fields_back : (fs : Fields) → fields_in (fields_data fs) ≡ fs
  fields_back no_fields = refl
  fields_back (field name t fs) = ap₂ (field name) (tree_back t) (fields_back fs)

-- ---- and a value that was read, without floats, is the value of its own tree

number_back : (n : json.Num) → IsInRange n → is_float n ≡ false → of_integer (whole_in n) ≡ n
number_back (json.unsigned n) h e = refl
number_back (json.negative z) h e = h.1
number_back (json.float x) h e = absurd (cc)

mutual
  data_back : (d : json.Data) → IsOrdered d → any_number is_float d ≡ false → data_of (tree_in d) ≡ d
  data_back json.null h e = refl
  data_back (json.boolean b) h e = refl
  data_back (json.number n) h e = ap json.number (number_back n h e)
  data_back (json.string s) h e = refl
  data_back (json.array ds) h e = ap json.array (array_back ds h e)
  data_back (json.object ms) h e = ap json.object (members_back ms h e)

  array_back : (ds : json.Items) → AreOrdered ds → any_in_items is_float ds ≡ false → items_data (items_in ds) ≡ ds
  array_back json.no_items h e = refl
  array_back (json.item d ds) h e =
      let parts = or_parts (any_number is_float d) (any_in_items is_float ds) e in
      ap₂ json.item (data_back d h.0 parts.0) (array_back ds h.1 parts.1)

  members_back : (ms : json.Members) → HasOrderedMembers ms → any_in_members is_float ms ≡ false
      → fields_data (fields_in ms) ≡ ms
  members_back json.no_members h e = refl
  members_back (json.member name d ms) h e =
      let parts = or_parts (any_number is_float d) (any_in_members is_float ms) e in
      ap₂ (json.member name) (data_back d h.1 parts.0) (members_back ms h.2 parts.1)

-- ---- what a text reads as

Reads-content_in : (bytes : List ℕ) (t : Tree) → Reads bytes t → content_in bytes ≡ Some t
unfolding content_in
Reads-content_in bytes t reads =
    cond-true _ _ _ (ap is_none reads.0) ∙ ap (option_map tree_in) reads.1 ∙ ap Some (tree_back t)

where_none : {A : Type 0} (o : Option ContentFault) (p : Option A) (a : A) → cond (is_none o) p None ≡ Some a
    → (o ≡ None) × (p ≡ Some a)
where_none None p a e = (refl, e)
where_none (Some f) p a e = absurd (cc)

of_some : (o : Option json.Data) (t : Tree) → option_map tree_in o ≡ Some t → (d : json.Data) × (o ≡ Some d)
    × (tree_in d ≡ t)
of_some None t e = absurd (cc)
of_some (Some d) t e = (d, refl, cc)

not_too_big : (b : Bool) (f : ContentFault) (o : Option ContentFault) → cond b (Some f) o ≡ None → (b ≡ false)
    × (o ≡ None)
not_too_big true f o e = absurd (cc)
not_too_big false f o e = (refl, e)

-- the value of a text without a fault has none
sound : (bytes : List ℕ) (d : json.Data) → fault_of bytes ≡ None → value_of bytes ≡ Some d → fault_of_value d ≡ None
sound bytes d good is =
    ap fault_of_reading (sym is)
    ∙ (not_too_big (nat_lt most_bytes (length bytes)) (TooBig (length bytes))
    (fault_of_reading (value_of bytes)) good).1

content_in-is : (bytes : List ℕ) (t : Tree) → content_in bytes ≡ Some t → Reads bytes t
unfolding content_in
content_in-is bytes t e =
    let parts = where_none (fault_of bytes) (option_map tree_in (value_of bytes)) t e in
    let found = of_some (value_of bytes) t parts.1 in
    let d = found.0 in
    let tests = none_of (not (is_some (as_object d))) (nat_lt most_depth (json.depth d)) (any_number is_float d)
    (any_number is_large d) (sound bytes d parts.0 found.1) in
    let back : data_of (tree_in d) ≡ d = data_back d (IsOrdered-read bytes d (read-value_of bytes d found.1)) tests.2 in
    (parts.0, found.1 ∙ ap Some (sym back ∙ ap data_of found.2))

-- a text reads as a content exactly where it has no fault and its value is that of the content
pub content_in-Reads : (bytes : List ℕ) (t : Tree) → (content_in bytes ≡ Some t) ↔ Reads bytes t
content_in-Reads bytes t = (content_in-is bytes t, Reads-content_in bytes t)

-- and it is a content
pub IsContent-content_in : (bytes : List ℕ) (t : Tree) → content_in bytes ≡ Some t → IsContent t
IsContent-content_in bytes t e =
    let reads = content_in-is bytes t e in
    IsContent-read bytes t reads.1
    (HasTexts-read bytes (data_of t) (utf8 bytes (data_of t) reads.1) (read-value_of bytes (data_of t) reads.1))
    (sound bytes (data_of t) reads.0 reads.1)
    (ltb-false most_bytes (length bytes)
    (not_too_big (nat_lt most_bytes (length bytes)) (TooBig (length bytes))
    (fault_of_reading (value_of bytes)) reads.0).0)
  where
    utf8_if : (b : Bool) (o : Option json.Data) (d : json.Data) → cond b o None ≡ Some d → b ≡ true
    utf8_if true o d e = refl
    utf8_if false o d e = absurd (cc)

    utf8 : (bytes : List ℕ) (d : json.Data) → value_of bytes ≡ Some d → IsUtf8 bytes
    utf8 bytes d e = IsUtf8-from_is_utf8 bytes (utf8_if (is_utf8 bytes) (read bytes) d e)

pub refused : (bytes : List ℕ) (f : ContentFault) → fault_of bytes ≡ Some f → content_in bytes ≡ None
unfolding content_in
refused bytes f fault = cond-false _ _ _ (ap is_none fault)

-- what is written reads as itself
pub content_in-canonical : (t : Tree) → IsContent t → content_in (canonical t) ≡ Some t
content_in-canonical t h = Reads-content_in (canonical t) t (Reads-canonical t h)
