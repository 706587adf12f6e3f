-- The keys of a content are those of its part that has the fields that are asked for.
use Rattle.std.proofs.Common.{◌≡◌, ℕ, List, [], ◌∷◌, ◌++◌, map, flat_map, Bool, true, false, ◌||◌, refl, sym, ap, ◌∙◌}
use Rattle.std.proofs.Common.{subst, inl, inr}
use Rattle.std.specs.Prelude.{if◌then◌else◌, take}
use Rattle.std.specs.Str.{bytes_eq}
use Rattle.std.proofs.lemmas.Bool.{cases_Bool}
use Rattle.std.proofs.lemmas.Slice.Eq.{bytes_eq-Decides}
use Rattle.content.specs.Parts.{fields_among, is_among, part_of}
use Rattle.content.specs.Tree.{Tree, null, boolean, whole, text, list, object, Fields, no_fields, field}
use Rattle.expr_parser.specs.Forms.{Form, Forms, field as at, lower, split_words, number, truth, combine, no_forms, form}
use Rattle.expr_eval.specs.Asked.{all_names_asked, first_of_path, names_asked, names_asked_by_each}
use Rattle.expr_eval.specs.Fields.{field_values, member_values}
use Rattle.expr_eval.specs.Keys.{key_texts, keys_of, most, tuples}
use Rattle.expr_eval.specs.Kinds.{texts_in, truths_in, wholes_in}
use Rattle.expr_eval.specs.Texts.{folded, number_text, truth_text}
use Rattle.expr_eval.specs.Values.{texts_of, values_of, values_of_each}
use Rattle.expr_eval.specs.Words.{distinct, words_in}
use Rattle.expr_eval.specs.declared.value.Value.{Value}
use Rattle.expr_eval.specs.declared.value.Value.TheVariants.{Text}

-- the names are all among the others
abbrev pub AreAmong : List (List ℕ) → List (List ℕ) → Type 0
AreAmong asked names = (n : List ℕ) → is_among asked n ≡ true → is_among names n ≡ true

or_left : (a b : Bool) → a ≡ true → (a || b) ≡ true
or_left true b e = refl
or_left false b e = absurd (cc)

or_right : (a b : Bool) → b ≡ true → (a || b) ≡ true
or_right true b e = refl
or_right false b e = e

in_left : (xs ys : List (List ℕ)) → AreAmong xs (xs ++ ys)
in_left [] ys n e = absurd (cc)
in_left (x ∷ xs) ys n e = elim (bytes_eq x n) as (λ b. (b || is_among xs n) ≡ true → (b || is_among (xs ++ ys) n) ≡ true) [
  | true ↦ λ h. refl
  | false ↦ λ h. in_left xs ys n h
] e

in_right : (xs ys : List (List ℕ)) → AreAmong ys (xs ++ ys)
in_right [] ys n e = e
in_right (x ∷ xs) ys n e = or_right (bytes_eq x n) (is_among (xs ++ ys) n) (in_right xs ys n e)

-- ---- fields

same_bytes : (name : List ℕ) → bytes_eq name name ≡ true
same_bytes name = (bytes_eq-Decides name name).1 refl

-- of equal names one is among others just where the other one is
same_among : (names : List (List ℕ)) (other name : List ℕ) → bytes_eq other name ≡ true → is_among names name ≡ true
    → is_among names other ≡ true
same_among names other name same e =
    subst (λ (n : List ℕ). is_among names n ≡ true) (sym ((bytes_eq-Decides other name).0 same)) e

-- a field with another name is looked past
past : (b : Bool) (other : List ℕ) (t : Tree) (some : Fields) (name : List ℕ) (parts : List (List ℕ))
    → bytes_eq other name ≡ false
    → member_values (if b then field other t some else some) name parts ≡ member_values some name parts
past true other t some name parts isnt =
    ap (λ c. if c then field_values t parts else member_values some name parts) isnt
past false other t some name parts isnt = refl

-- and one with this name is found
found : (b : Bool) (other : List ℕ) (t : Tree) (some : Fields) (name : List ℕ) (parts : List (List ℕ))
    → bytes_eq other name ≡ true → b ≡ true
    → member_values (if b then field other t some else some) name parts ≡ field_values t parts
found true other t some name parts is e =
    ap (λ c. if c then field_values t parts else member_values some name parts) is
found false other t some name parts is e = absurd (cc)

members_same : (names : List (List ℕ)) (fs : Fields) (name : List ℕ) (parts : List (List ℕ)) → is_among names name ≡ true
    → member_values (fields_among names fs) name parts ≡ member_values fs name parts
members_same names no_fields name parts e = refl
members_same names (field other t fs) name parts e = elim (cases_Bool (bytes_eq other name)) [
  | inl is ↦
      found (is_among names other) other t (fields_among names fs) name parts is (same_among names other name is e)
      ∙ sym (ap (λ c. if c then field_values t parts else member_values fs name parts) is)
  | inr isnt ↦
      past (is_among names other) other t (fields_among names fs) name parts isnt
      ∙ members_same names fs name parts e
      ∙ sym (ap (λ c. if c then field_values t parts else member_values fs name parts) isnt)
]

fields_same : (names : List (List ℕ)) (t : Tree) (parts : List (List ℕ)) → AreAmong (first_of_path parts) names
    → field_values (part_of names t) parts ≡ field_values t parts
fields_same names null parts among = refl
fields_same names (boolean b) parts among = refl
fields_same names (whole z) parts among = refl
fields_same names (text s) parts among = refl
fields_same names (list ts) parts among = refl
fields_same names (object fs) [] among = refl
fields_same names (object fs) (name ∷ parts) among =
    members_same names fs name parts (among name (or_left (bytes_eq name name) false (same_bytes name)))

-- ---- expressions

mutual
  values_same : (names : List (List ℕ)) (f : Form) (t : Tree) → AreAmong (names_asked f) names
      → values_of f (part_of names t) ≡ values_of f t
  values_same names (at parts) t among = fields_same names t parts among
  values_same names (lower f) t among =
      ap (λ (vs : List Value). map Text (map folded (texts_in vs))) (values_same names f t among)
  values_same names (split_words f) t among =
      ap (λ (vs : List Value). map Text (distinct (flat_map words_in (texts_in vs)))) (values_same names f t among)
  values_same names (number f width) t among =
      ap (λ (vs : List Value). map Text (map (number_text width) (wholes_in vs))) (values_same names f t among)
  values_same names (truth f) t among =
      ap (λ (vs : List Value). map Text (map truth_text (truths_in vs))) (values_same names f t among)
  values_same names (combine fs) t among = each_same names fs t among

  each_same : (names : List (List ℕ)) (fs : Forms) (t : Tree) → AreAmong (names_asked_by_each fs) names
      → values_of_each fs (part_of names t) ≡ values_of_each fs t
  each_same names no_forms t among = refl
  each_same names (form f fs) t among = λ i.
      values_same names f t (λ n e. among n (in_left (names_asked f) (names_asked_by_each fs) n e)) i
      ++ each_same names fs t (λ n e. among n (in_right (names_asked f) (names_asked_by_each fs) n e)) i

lists_same : (names : List (List ℕ)) (forms : List Form) (t : Tree) → AreAmong (all_names_asked forms) names
    → map (λ f. key_texts (texts_of f (part_of names t))) forms ≡ map (λ f. key_texts (texts_of f t)) forms
lists_same names [] t among = refl
lists_same names (f ∷ fs) t among = λ i.
    key_texts (texts_in (values_same names f t
    (λ n e. among n (in_left (names_asked f) (all_names_asked fs) n e)) i))
    ∷ lists_same names fs t (λ n e. among n (in_right (names_asked f) (all_names_asked fs) n e)) i

-- THE KEYS ARE THOSE OF THE PART that has the fields that are asked for
pub keys_same : (forms : List Form) (t : Tree) → keys_of forms (part_of (all_names_asked forms) t) ≡ keys_of forms t
keys_same forms t = ap (λ lists. take most (tuples lists)) (lists_same (all_names_asked forms) forms t (λ n e. e))
