-- The canonical text of a content: it is UTF-8, has no fault, reads as the content, and no other content has it.
use Rattle.std.proofs.Common.{◌≡◌, ℕ, ◌^◌, ◌<◌, ◌≤◌, ℤ, pos, negsuc, Bool, true, false, cond, not, nat_lt, is_some}
use Rattle.std.proofs.Common.{IsTrue, List, [], ◌∷◌, ◌++◌, length, Option, Some, None, FitsSigned, IsUtf8, refl, sym}
use Rattle.std.proofs.Common.{ap, ap₂, ◌∙◌, arith}
use Rattle.std.proofs.lemmas.Bool.{or_parts, or_from, le-ltb, ltb-false, leb-false, lt-leb}
use Rattle.std.proofs.lemmas.Int.{ints}
use Rattle.std.proofs.lemmas.Fmt.{IsAscii-decimal, IsAscii-signed}
use Rattle.std.proofs.lemmas.Str.{IsUtf8-append, IsUtf8-nil, IsUtf8-from_ascii, is_utf8-from_IsUtf8}
use Rattle.std.specs.Int.{w64}
use Rattle.std.specs.Str.{is_utf8}
use Rattle.json.specs.Print.{quoted}
use Rattle.json.proofs.Printed.Utf8.{IsUtf8-are_ascii, IsUtf8-quoted, IsUtf8-boolean}
use Rattle.serde_json.specs.Data as json
use Rattle.serde_json.specs.Find.{of_integer, is_float, as_object}
use Rattle.serde_json.specs.Read.{read}
use Rattle.serde_json.specs.Written.{number_text, items_text, members_text, comma_if}
use Rattle.content.specs.Tree.{Tree, null, boolean, whole, text, list, object, Items, no_items, item, Fields, no_fields}
use Rattle.content.specs.Tree.{field, is_object, nesting}
use Rattle.content.specs.Canonical.{data_of, items_data, fields_data, canonical}
use Rattle.content.specs.Contents.{IsContent, IsFormed, AreFormed, HasFormedFields, Precedes, most_bytes, most_depth}
use Rattle.content.specs.Faults.{any_number, any_in_items, any_in_members, is_large, fault_of_value, fault_of_reading}
use Rattle.content.specs.Faults.{fault_of, value_of, Reads}
use Rattle.content.specs.declared.fault.ContentFault.{ContentFault}
use Rattle.content.specs.declared.fault.ContentFault.TheVariants.{NotObject, TooDeep, NotWhole, OutOfRange}
use Rattle.content.proofs.Ordered.{IsBelow, IsOrdered, AreOrdered, HasOrderedMembers, IsOrdered-read}
use Rattle.content.proofs.ReadBack.{depth-data_of, read-canonical}
use Rattle.content.proofs.Shorter.{compact-shorter}
use Rattle.content.proofs.Utf8Texts.{HasTexts, ItemsHaveTexts, MembersHaveTexts}

-- ---- it is UTF-8

number_utf8 : (z : ℤ) → FitsSigned w64 z → IsUtf8 (number_text (of_integer z))
number_utf8 (pos n) fits = IsUtf8-from_ascii _ (IsAscii-decimal n (omega (arith, ints)))
number_utf8 (negsuc n) fits = IsUtf8-from_ascii _ (IsAscii-signed (negsuc n) (omega (arith, ints)))

comma_utf8 : (later : Bool) → IsUtf8 (comma_if later)
comma_utf8 true = IsUtf8-are_ascii (44 ∷ []) refl
comma_utf8 false = IsUtf8-nil

mutual
  pub IsUtf8-canonical : (t : Tree) → IsFormed t → IsUtf8 (canonical t)
  IsUtf8-canonical null h = IsUtf8-are_ascii _ refl
  IsUtf8-canonical (boolean b) h = IsUtf8-boolean b
  IsUtf8-canonical (whole z) h = number_utf8 z h
  IsUtf8-canonical (text s) h = IsUtf8-quoted s h
  IsUtf8-canonical (list ts) h = IsUtf8-append (91 ∷ []) (items_text false (items_data ts))
      (IsUtf8-are_ascii (91 ∷ []) refl) (items_utf8 false ts h)
  IsUtf8-canonical (object fs) h = IsUtf8-append (123 ∷ []) (members_text false (fields_data fs))
      (IsUtf8-are_ascii (123 ∷ []) refl) (fields_utf8 false fs h)

  items_utf8 : (later : Bool) (ts : Items) → AreFormed ts → IsUtf8 (items_text later (items_data ts))
  items_utf8 later no_items h = IsUtf8-are_ascii (93 ∷ []) refl
  items_utf8 later (item t ts) h =
      IsUtf8-append (comma_if later) (canonical t ++ items_text true (items_data ts)) (comma_utf8 later)
      (IsUtf8-append (canonical t) (items_text true (items_data ts)) (IsUtf8-canonical t h.0) (items_utf8 true ts h.1))

  fields_utf8 : (later : Bool) (fs : Fields) → HasFormedFields fs → IsUtf8 (members_text later (fields_data fs))
  fields_utf8 later no_fields h = IsUtf8-are_ascii (125 ∷ []) refl
  fields_utf8 later (field name t fs) h =
      let rest = members_text true (fields_data fs) in
      IsUtf8-append (comma_if later) (quoted name ++ 58 ∷ (canonical t ++ rest)) (comma_utf8 later)
      (IsUtf8-append (quoted name) (58 ∷ (canonical t ++ rest)) (IsUtf8-quoted name h.0)
      (IsUtf8-append (58 ∷ []) (canonical t ++ rest) (IsUtf8-are_ascii (58 ∷ []) refl)
      (IsUtf8-append (canonical t) rest (IsUtf8-canonical t h.2) (fields_utf8 true fs h.3))))

-- ---- it has no fault

not_float : (z : ℤ) → is_float (of_integer z) ≡ false
not_float (pos n) = refl
not_float (negsuc n) = refl

mutual
  no_float : (t : Tree) → any_number is_float (data_of t) ≡ false
  no_float null = refl
  no_float (boolean b) = refl
  no_float (whole z) = not_float z
  no_float (text s) = refl
  no_float (list ts) = no_float_in_items ts
  no_float (object fs) = no_float_in_fields fs

  no_float_in_items : (ts : Items) → any_in_items is_float (items_data ts) ≡ false
  no_float_in_items no_items = refl
  no_float_in_items (item t ts) = or_from _ _ (no_float t) (no_float_in_items ts)

  no_float_in_fields : (fs : Fields) → any_in_members is_float (fields_data fs) ≡ false
  no_float_in_fields no_fields = refl
  no_float_in_fields (field name t fs) = or_from _ _ (no_float t) (no_float_in_fields fs)

pub not_large : (z : ℤ) → FitsSigned w64 z → is_large (of_integer z) ≡ false
not_large (pos n) fits = let small : n < 2 ^ 63 = omega (arith, ints) in lt-leb (2 ^ 63) n small
not_large (negsuc n) fits = refl

mutual
  no_large : (t : Tree) → IsFormed t → any_number is_large (data_of t) ≡ false
  no_large null h = refl
  no_large (boolean b) h = refl
  no_large (whole z) h = not_large z h
  no_large (text s) h = refl
  no_large (list ts) h = no_large_in_items ts h
  no_large (object fs) h = no_large_in_fields fs h

  no_large_in_items : (ts : Items) → AreFormed ts → any_in_items is_large (items_data ts) ≡ false
  no_large_in_items no_items h = refl
  no_large_in_items (item t ts) h = or_from _ _ (no_large t h.0) (no_large_in_items ts h.1)

  no_large_in_fields : (fs : Fields) → HasFormedFields fs → any_in_members is_large (fields_data fs) ≡ false
  no_large_in_fields no_fields h = refl
  no_large_in_fields (field name t fs) h = or_from _ _ (no_large t h.2) (no_large_in_fields fs h.3)

-- the first of four faults whose test is true
abbrev first_fault : Bool → Bool → Bool → Bool → Option ContentFault
first_fault other deep float large =
    cond other (Some NotObject)
    (cond deep (Some TooDeep) (cond float (Some NotWhole) (cond large (Some OutOfRange) None)))

first_fault-None : (a b c d : Bool) → a ≡ false → b ≡ false → c ≡ false → d ≡ false → first_fault a b c d ≡ None
first_fault-None a b c d p q r s = rw (p, q, r, s) refl

pub none_of : (a b c d : Bool) → first_fault a b c d ≡ None → (a ≡ false) × (b ≡ false) × (c ≡ false) × (d ≡ false)
none_of true b c d e = absurd (cc)
none_of false true c d e = absurd (cc)
none_of false false true d e = absurd (cc)
none_of false false false true e = absurd (cc)
none_of false false false false e = (refl, refl, refl, refl)

object_as_object : (t : Tree) → IsTrue (is_object t) → not (is_some (as_object (data_of t))) ≡ false
object_as_object null h = absurd (cc)
object_as_object (boolean b) h = absurd (cc)
object_as_object (whole z) h = absurd (cc)
object_as_object (text s) h = absurd (cc)
object_as_object (list ts) h = absurd (cc)
object_as_object (object fs) h = refl

as_object_object : (t : Tree) → not (is_some (as_object (data_of t))) ≡ false → IsTrue (is_object t)
as_object_object null h = absurd (cc)
as_object_object (boolean b) h = absurd (cc)
as_object_object (whole z) h = absurd (cc)
as_object_object (text s) h = absurd (cc)
as_object_object (list ts) h = absurd (cc)
as_object_object (object fs) h = refl

-- a root that is an object, not too deep and without large numbers has no fault
pub sound_root : (t : Tree) → IsTrue (is_object t) → nesting t ≤ most_depth → any_number is_large (data_of t) ≡ false
    → fault_of_value (data_of t) ≡ None
sound_root t root shallow small =
    first_fault-None (not (is_some (as_object (data_of t)))) (nat_lt most_depth (json.depth (data_of t)))
    (any_number is_float (data_of t)) (any_number is_large (data_of t))
    (object_as_object t root)
    (le-ltb most_depth (json.depth (data_of t)) (omega (arith, shallow, depth-data_of t))) (no_float t)
    small

fault_of_value-data_of : (t : Tree) → IsContent t → fault_of_value (data_of t) ≡ None
fault_of_value-data_of t h = sound_root t h.root h.shallow (no_large t h.formed)

pub value_of-canonical : (t : Tree) → IsContent t → value_of (canonical t) ≡ Some (data_of t)
value_of-canonical t h =
    rw (is_utf8-from_IsUtf8 (canonical t) (IsUtf8-canonical t h.formed))
    (read-canonical t h.formed (omega (arith, h.shallow)))

fault_within : (b : Bool) (f : ContentFault) (o : Option ContentFault) → b ≡ false → cond b (Some f) o ≡ o
fault_within true f o e = absurd (cc)
fault_within false f o e = refl

-- a text that is not too long and whose value has no fault reads as the tree of the value
pub Reads-value : (bytes : List ℕ) (t : Tree) → length bytes ≤ most_bytes → value_of bytes ≡ Some (data_of t)
    → fault_of_value (data_of t) ≡ None → Reads bytes t
Reads-value bytes t short is sound = (
  fault_within (nat_lt most_bytes (length bytes)) _ _ (le-ltb most_bytes (length bytes) short)
      ∙ ap fault_of_reading is ∙ sound,
  is,
)

pub no_fault-canonical : (t : Tree) → IsContent t → fault_of (canonical t) ≡ None
no_fault-canonical t h =
    fault_within (nat_lt most_bytes (length (canonical t))) _ _ (le-ltb most_bytes (length (canonical t)) h.short)
    ∙ ap fault_of_reading (value_of-canonical t h) ∙ fault_of_value-data_of t h

-- ---- no other content has it

of_integer-injective : (y z : ℤ) → of_integer y ≡ of_integer z → y ≡ z
of_integer-injective (pos m) (pos n) e = cc
of_integer-injective (pos m) (negsuc n) e = absurd (cc)
of_integer-injective (negsuc m) (pos n) e = absurd (cc)
of_integer-injective (negsuc m) (negsuc n) e = cc

mutual
  pub data_of-injective : (t u : Tree) → data_of t ≡ data_of u → t ≡ u
  data_of-injective null null e = refl
  data_of-injective (boolean a) (boolean b) e = cc
  data_of-injective (whole y) (whole z) e = ap whole (of_integer-injective y z (cc))
  data_of-injective (text s) (text r) e = cc
  data_of-injective (list ts) (list us) e = ap list (items_data-injective ts us (cc))
  data_of-injective (object fs) (object gs) e = ap object (fields_data-injective fs gs (cc))
  data_of-injective _ _ e = absurd (cc)

  items_data-injective : (ts us : Items) → items_data ts ≡ items_data us → ts ≡ us
  items_data-injective no_items no_items e = refl
  items_data-injective (item t ts) (item u us) e =
      ap₂ item (data_of-injective t u (cc)) (items_data-injective ts us (cc))
  items_data-injective _ _ e = absurd (cc)

  fields_data-injective : (fs gs : Fields) → fields_data fs ≡ fields_data gs → fs ≡ gs
  fields_data-injective no_fields no_fields e = refl
  fields_data-injective (field k t fs) (field l u gs) e =
      let named : k ≡ l = cc in
      ap (λ n. field n t fs) named ∙ ap₂ (field l) (data_of-injective t u (cc)) (fields_data-injective fs gs (cc))
  fields_data-injective _ _ e = absurd (cc)

some_inj : (d e : json.Data) → Some d ≡ Some e → d ≡ e
some_inj d e h = cc

pub canonical-injective : (t u : Tree) → IsContent t → IsContent u → canonical t ≡ canonical u → t ≡ u
canonical-injective t u h k e =
    data_of-injective t u (some_inj (data_of t) (data_of u)
    (sym (value_of-canonical t h) ∙ ap value_of e ∙ value_of-canonical u k))

pub Reads-canonical : (t : Tree) → IsContent t → Reads (canonical t) t
Reads-canonical t h = (no_fault-canonical t h, value_of-canonical t h)

-- ---- a tree that was read without a fault is a content

in_range : (z : ℤ) → IsOrdered (json.number (of_integer z)) → is_large (of_integer z) ≡ false → FitsSigned w64 z
in_range (pos n) h e = let small : n < 2 ^ 63 = leb-false (2 ^ 63) n e in omega (arith, ints)
in_range (negsuc n) h e = h.0

precedes : (name : List ℕ) (fs : Fields) → IsBelow name (fields_data fs) → Precedes name fs
precedes name no_fields h = tt
precedes name (field other t fs) h = (h.0, precedes name fs h.1)

mutual
  formed : (t : Tree) → IsOrdered (data_of t) → HasTexts (data_of t) → any_number is_large (data_of t) ≡ false
      → IsFormed t
  formed null h k e = tt
  formed (boolean b) h k e = tt
  formed (whole z) h k e = in_range z h e
  formed (text s) h k e = k
  formed (list ts) h k e = formed_items ts h k e
  formed (object fs) h k e = formed_fields fs h k e

  formed_items : (ts : Items) → AreOrdered (items_data ts) → ItemsHaveTexts (items_data ts)
      → any_in_items is_large (items_data ts) ≡ false → AreFormed ts
  formed_items no_items h k e = tt
  formed_items (item t ts) h k e =
      let small = or_parts (any_number is_large (data_of t)) (any_in_items is_large (items_data ts)) e in
      (formed t h.0 k.0 small.0, formed_items ts h.1 k.1 small.1)

  formed_fields : (fs : Fields) → HasOrderedMembers (fields_data fs) → MembersHaveTexts (fields_data fs)
      → any_in_members is_large (fields_data fs) ≡ false → HasFormedFields fs
  formed_fields no_fields h k e = tt
  formed_fields (field name t fs) h k e =
      let small = or_parts (any_number is_large (data_of t)) (any_in_members is_large (fields_data fs)) e in
      (k.0, precedes name fs h.0, formed t h.1 k.1 small.0, formed_fields fs h.2 k.2 small.1)

some_of_cond : (b : Bool) (o : Option json.Data) (d : json.Data) → cond b o None ≡ Some d → o ≡ Some d
some_of_cond true o d e = e
some_of_cond false o d e = absurd (cc)

pub read-value_of : (bytes : List ℕ) (d : json.Data) → value_of bytes ≡ Some d → read bytes ≡ Some d
read-value_of bytes d e = some_of_cond (is_utf8 bytes) (read bytes) d e

pub length-canonical-read : (bytes : List ℕ) (t : Tree) → value_of bytes ≡ Some (data_of t)
    → length (canonical t) ≤ length bytes
length-canonical-read bytes t e = compact-shorter bytes (data_of t) (read-value_of bytes (data_of t) e)

pub IsContent-read : (bytes : List ℕ) (t : Tree) → value_of bytes ≡ Some (data_of t) → HasTexts (data_of t)
    → fault_of_value (data_of t) ≡ None → length bytes ≤ most_bytes → IsContent t
IsContent-read bytes t e texts sound short =
    let d = data_of t in
    let tests = none_of (not (is_some (as_object d))) (nat_lt most_depth (json.depth d)) (any_number is_float d)
    (any_number is_large d) sound in
    record {
      root = as_object_object t tests.0;
      shallow = omega (arith, ltb-false most_depth (json.depth d) tests.1, depth-data_of t);
      formed = formed t (IsOrdered-read bytes d (read-value_of bytes d e)) texts tests.3;
      short = omega (arith, length-canonical-read bytes t e);
    }
