-- The canonical text of a formed tree is UTF-8 and reads as the tree.
use Rattle.std.proofs.Common.{◌≡◌, ℕ, suc, ◌≤◌, max, ℤ, pos, negsuc, List, [], Option, Some, option_map}
use Rattle.std.proofs.Common.{option_and_then, Less, Greater, nat_cmp, FitsSigned, refl, sym, ap, ap₂, ◌∙◌, arith}
use Rattle.std.proofs.Common.{append-nil}
use Rattle.std.proofs.lemmas.Cmp.{nat_list_cmp_total}
use Rattle.std.proofs.lemmas.Int.{ints}
use Rattle.std.specs.Prelude.{⊤}
use Rattle.std.specs.Cmp.Lexicographic.{slice_cmp}
use Rattle.std.specs.Int.{w64}
use Rattle.std.specs.Ordering.{ordering_reverse}
use Rattle.json.specs.Token.{Token}
use Rattle.json.specs.Lex.{tokens}
use Rattle.json.specs.Json as json
use Rattle.json.specs.Print.{IsNumber}
use Rattle.json.specs.Tree as tree
use Rattle.json.specs.Tree.{json_tokens, HasNumbers, ItemsHaveNumbers, MembersHaveNumbers}
use Rattle.json.proofs.Printed.Decimals.{IsNumber-decimal, IsNumber-signed_decimal}
use Rattle.json.proofs.Printed.Tokens.{tokens-print}
use Rattle.json.proofs.Printed.Trees.{value-json_tokens, ArePrintable-json_tokens}
use Rattle.serde_json.specs.Data.{Num, unsigned, negative, Data, number, Members, no_members, member, put, depth}
use Rattle.serde_json.specs.Data.{items_depth, members_depth}
use Rattle.serde_json.specs.Find.{of_integer}
use Rattle.serde_json.specs.Read.{number_of, of_json, of_items, of_members, max_depth, read}
use Rattle.serde_json.specs.Written.{number_text, outline, items_outline, members_outline}
use Rattle.serde_json.proofs.Numbers.{number_of-decimal, number_of-negative}
use Rattle.serde_json.proofs.Texts.{print-outline}
use Rattle.content.specs.Tree.{Tree, null, boolean, whole, text, list, object, Items, no_items, item, Fields, no_fields}
use Rattle.content.specs.Tree.{field, nesting, items_nesting, fields_nesting}
use Rattle.content.specs.Canonical.{data_of, items_data, fields_data, canonical}
use Rattle.content.specs.Contents.{Precedes, IsFormed, AreFormed, HasFormedFields}

mutual
  pub depth-data_of : (t : Tree) → depth (data_of t) ≡ nesting t
  depth-data_of null = refl
  depth-data_of (boolean b) = refl
  depth-data_of (whole z) = refl
  depth-data_of (text s) = refl
  depth-data_of (list ts) = ap suc (depth-items ts)
  depth-data_of (object fs) = ap suc (depth-fields fs)

  depth-items : (ts : Items) → items_depth (items_data ts) ≡ items_nesting ts
  depth-items no_items = refl
  depth-items (item t ts) = ap₂ max (depth-data_of t) (depth-items ts)

  pub depth-fields : (fs : Fields) → members_depth (fields_data fs) ≡ fields_nesting fs
  depth-fields no_fields = refl
  depth-fields (field name t fs) = ap₂ max (depth-data_of t) (depth-fields fs)

-- the JSON tree is as deep as its value
mutual
  depth-outline : (t : Tree) → tree.depth (outline (data_of t)) ≡ nesting t
  depth-outline null = refl
  depth-outline (boolean b) = refl
  depth-outline (whole z) = refl
  depth-outline (text s) = refl
  depth-outline (list ts) = ap suc (depth-items_outline ts)
  depth-outline (object fs) = ap suc (depth-members_outline fs)

  depth-items_outline : (ts : Items) → tree.items_depth (items_outline (items_data ts)) ≡ items_nesting ts
  depth-items_outline no_items = refl
  depth-items_outline (item t ts) = ap₂ max (depth-outline t) (depth-items_outline ts)

  depth-members_outline : (fs : Fields) → tree.members_depth (members_outline (fields_data fs)) ≡ fields_nesting fs
  depth-members_outline no_fields = refl
  depth-members_outline (field name t fs) = ap₂ max (depth-outline t) (depth-members_outline fs)

-- ---- numbers

is_number : (z : ℤ) → FitsSigned w64 z → IsNumber (number_text (of_integer z))
is_number (pos n) fits = IsNumber-decimal n (omega (arith, ints))
is_number (negsuc n) fits = IsNumber-signed_decimal (negsuc n) (omega (arith, ints))

pub number_back : (z : ℤ) → FitsSigned w64 z → number_of (number_text (of_integer z)) ≡ Some (of_integer z)
number_back (pos n) fits = number_of-decimal n (omega (arith, ints))
number_back (negsuc n) fits = number_of-negative n (omega (arith, ints))

mutual
  has_numbers : (t : Tree) → IsFormed t → HasNumbers (outline (data_of t))
  has_numbers null h = tt
  has_numbers (boolean b) h = tt
  has_numbers (whole z) h = is_number z h
  has_numbers (text s) h = tt
  has_numbers (list ts) h = items_have_numbers ts h
  has_numbers (object fs) h = members_have_numbers fs h

  items_have_numbers : (ts : Items) → AreFormed ts → ItemsHaveNumbers (items_outline (items_data ts))
  items_have_numbers no_items h = tt
  items_have_numbers (item t ts) h = (has_numbers t h.0, items_have_numbers ts h.1)

  members_have_numbers : (fs : Fields) → HasFormedFields fs → MembersHaveNumbers (members_outline (fields_data fs))
  members_have_numbers no_fields h = tt
  members_have_numbers (field name t fs) h = (has_numbers t h.2, members_have_numbers fs h.3)

-- ---- members

-- the members, and then those of the fields
abbrev before : Members → Fields → Members
before no_members fs = fields_data fs
before (member k d ms) fs = member k d (before ms fs)

-- every name of the members is below the name
abbrev AreBelow : Members → List ℕ → Type 0
AreBelow no_members name = ⊤
AreBelow (member k d ms) name = (slice_cmp nat_cmp k name ≡ Less) × AreBelow ms name

-- and below every name of the fields
abbrev AreBefore : Members → Fields → Type 0
AreBefore ms no_fields = ⊤
AreBefore ms (field name t fs) = AreBelow ms name × AreBefore ms fs

last : Members → List ℕ → Data → Members
last no_members k d = member k d no_members
last (member l e ms) k d = member l e (last ms k d)

put_last : (k : List ℕ) (d : Data) (ms : Members) → AreBelow ms k → put k d ms ≡ last ms k d
unfolding last
put_last k d no_members h = refl
put_last k d (member l e ms) h =
    let above : slice_cmp nat_cmp k l ≡ Greater = nat_list_cmp_total.antisymm k l ∙ ap ordering_reverse h.0 in
    rw above (ap (member l e) (put_last k d ms h.1))

before-last : (ms : Members) (name : List ℕ) (t : Tree) (fs : Fields)
    → before (last ms name (data_of t)) fs ≡ before ms (field name t fs)
unfolding last
before-last no_members name t fs = refl
before-last (member k d ms) name t fs = ap (member k d) (before-last ms name t fs)

below-last : (ms : Members) (k : List ℕ) (d : Data) (name : List ℕ) → AreBelow ms name
    → slice_cmp nat_cmp k name ≡ Less → AreBelow (last ms k d) name
unfolding last
below-last no_members k d name h less = (less, tt)
below-last (member l e ms) k d name h less = (h.0, below-last ms k d name h.1 less)

before_next : (ms : Members) (k : List ℕ) (d : Data) (fs : Fields) → AreBefore ms fs → Precedes k fs
    → AreBefore (last ms k d) fs
before_next ms k d no_fields h p = tt
before_next ms k d (field name t fs) h p = (below-last ms k d name h.0 p.0, before_next ms k d fs h.1 p.1)

before-no_fields : (ms : Members) → before ms no_fields ≡ ms
before-no_fields no_members = refl
before-no_fields (member k d ms) = ap (member k d) (before-no_fields ms)

none_before : (fs : Fields) → AreBefore no_members fs
none_before no_fields = tt
none_before (field name t fs) = (tt, none_before fs)

mutual
  of_json-outline : (t : Tree) → IsFormed t → of_json (outline (data_of t)) ≡ Some (data_of t)
  of_json-outline null h = refl
  of_json-outline (boolean b) h = refl
  of_json-outline (whole z) h = ap (option_map number) (number_back z h)
  of_json-outline (text s) h = refl
  of_json-outline (list ts) h = ap (option_map Rattle.serde_json.specs.Data.array) (of_items-outline ts h)
  of_json-outline (object fs) h = ap (option_map Rattle.serde_json.specs.Data.object)
      (of_members-outline fs no_members h (none_before fs))

  of_items-outline : (ts : Items) → AreFormed ts → of_items (items_outline (items_data ts)) ≡ Some (items_data ts)
  of_items-outline no_items h = refl
  of_items-outline (item t ts) h = rw (of_json-outline t h.0, of_items-outline ts h.1) refl

  of_members-outline : (fs : Fields) (ms : Members) → HasFormedFields fs → AreBefore ms fs
      → of_members (members_outline (fields_data fs)) ms ≡ Some (before ms fs)
  of_members-outline no_fields ms h low = ap Some (sym (before-no_fields ms))
  of_members-outline (field name t fs) ms h low =
      ap (option_and_then (λ d. of_members (members_outline (fields_data fs)) (put name d ms))) (of_json-outline t h.2)
      ∙ ap (of_members (members_outline (fields_data fs))) (put_last name (data_of t) ms low.0)
      ∙ of_members-outline fs (last ms name (data_of t)) h.3 (before_next ms name (data_of t) fs low.1 h.1)
      ∙ ap Some (before-last ms name t fs)

-- ---- the whole text

abbrev whole_read : Option (json.Json × List Token) → Option Data
whole_read o = option_and_then of_json (option_and_then (λ p. json.if_last p.0 p.1) o)

pub read-canonical : (t : Tree) → IsFormed t → nesting t ≤ max_depth → read (canonical t) ≡ Some (data_of t)
read-canonical t h shallow =
    let j = outline (data_of t) in
    let lexed : tokens (canonical t) ≡ json_tokens j = ap tokens (sym (print-outline (data_of t)))
    ∙ tokens-print (json_tokens j) (ArePrintable-json_tokens j (has_numbers t h)) in
    ap whole_read (ap (json.value max_depth) (lexed ∙ sym (append-nil (json_tokens j)))
    ∙ value-json_tokens j max_depth [] (omega (arith, depth-outline t))) ∙ of_json-outline t h
