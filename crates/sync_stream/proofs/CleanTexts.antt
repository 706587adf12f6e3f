-- No CR stands in a JSON text, and how long one is.
use Rattle.std.proofs.Common.{◌≡◌, ℕ, zero, suc, ◌+◌, ◌*◌, ◌<◌, ◌≤◌, Bool, true, false, not, eqb, nat_le, ◌&&◌, List}
use Rattle.std.proofs.Common.{[], ◌∷◌, ◌++◌, length, inl, inr, refl, sym, ap, ◌∙◌, subst, arith, append_assoc}
use Rattle.std.specs.List.{list_all}
use Rattle.std.proofs.lemmas.Bool.{and_parts, and_from, cases_lt, cases_eq, leb-true, ne_eqb}
use Rattle.std.proofs.lemmas.List.{length-append}
use Rattle.json.specs.Print.{escape_byte, escape, quoted}
use Rattle.json.proofs.Printed.Strings.{escape_byte_plain}
use Rattle.serde_json.specs.Written.{members_text, comma_if}
use Rattle.content.specs.Tree.{Fields, no_fields, field, object}
use Rattle.content.specs.Canonical.{canonical, fields_data}
use Rattle.sync_http.proofs.HeadBytes.{both_pass}

-- the byte is no CR
abbrev pub no_cr : ℕ → Bool
no_cr b = not (eqb b 13)

-- the bytes have no CR
abbrev pub IsClean : List ℕ → Type 0
IsClean bytes = list_all no_cr bytes ≡ true

pub IsClean-append : (xs ys : List ℕ) → IsClean xs → IsClean ys → IsClean (xs ++ ys)
IsClean-append xs ys h g = both_pass no_cr xs ys h g

-- ---- quoted texts

abbrev is_tame : ℕ → Bool
is_tame x = list_all no_cr (escape_byte x) && nat_le (length (escape_byte x)) 6

abbrev tame_below : ℕ → Bool
tame_below zero = true
tame_below (suc n) = is_tame n && tame_below n

tame_small : (n : ℕ) → tame_below n ≡ true → (x : ℕ) → x < n → is_tame x ≡ true
tame_small zero e x h = absurd (omega arith)
tame_small (suc n) e x h =
    let p = and_parts (is_tame n) (tame_below n) e in
    elim (cases_eq x n) [
      | inl same ↦ subst (λ y. is_tame y ≡ true) (sym same) p.0
      | inr other ↦ tame_small n p.1 x (omega arith)
    ]

all_tame : tame_below 128 ≡ true
unfolding escape_byte
all_tame = refl

tame : (x : ℕ) → is_tame x ≡ true
tame x = elim (cases_lt x 128) [
  | inl small ↦ tame_small 128 all_tame x small
  | inr big ↦
      let plain = escape_byte_plain x (λ e. omega arith) (λ e. omega arith) (omega arith) in
      subst (λ (bytes : List ℕ). (list_all no_cr bytes && nat_le (length bytes) 6) ≡ true) (sym plain)
      (and_from _ _ (and_from _ _ (ap not (ne_eqb x 13 (λ e. omega arith))) refl) refl)
]

escape_clean : (s : List ℕ) → IsClean (escape s)
escape_clean [] = refl
escape_clean (x ∷ s) = IsClean-append (escape_byte x) (escape s)
    (and_parts (list_all no_cr (escape_byte x)) _ (tame x)).0 (escape_clean s)

pub quoted_clean : (s : List ℕ) → IsClean (quoted s)
quoted_clean s = IsClean-append (escape s) (34 ∷ []) (escape_clean s) refl

escape_length : (s : List ℕ) → length (escape s) ≤ 6 * length s
escape_length [] = omega arith
escape_length (x ∷ s) =
    let one = leb-true (length (escape_byte x)) 6 (and_parts (list_all no_cr (escape_byte x)) _ (tame x)).1 in
    let rest = escape_length s in
    omega (arith, one, rest, length-append (escape_byte x) (escape s))

pub quoted_length : (s : List ℕ) → length (quoted s) ≤ 6 * length s + 2
quoted_length s = let inside = escape_length s in omega (arith, inside, length-append (escape s) (34 ∷ []))

-- ---- objects

-- no value of the fields has a CR in its text
abbrev pub AreClean : Fields → Type 0
AreClean no_fields = Unit {0}
AreClean (field name t fs) = IsClean (canonical t) × AreClean fs

members_clean : (later : Bool) (fs : Fields) → AreClean fs → IsClean (members_text later (fields_data fs))
members_clean later no_fields h = refl
members_clean true (field name t fs) h =
    IsClean-append (quoted name) (58 ∷ (canonical t ++ members_text true (fields_data fs))) (quoted_clean name)
    (IsClean-append (canonical t) (members_text true (fields_data fs)) h.0 (members_clean true fs h.1))
members_clean false (field name t fs) h =
    IsClean-append (quoted name) (58 ∷ (canonical t ++ members_text true (fields_data fs))) (quoted_clean name)
    (IsClean-append (canonical t) (members_text true (fields_data fs)) h.0 (members_clean true fs h.1))

pub object_clean : (fs : Fields) → AreClean fs → IsClean (canonical (object fs))
object_clean fs h = members_clean false fs h

-- how long the text of the fields is at most
abbrev pub bound : Fields → ℕ
bound no_fields = 1
bound (field name t fs) = 6 * length name + 4 + length (canonical t) + bound fs

members_length : (later : Bool) (fs : Fields) → length (members_text later (fields_data fs)) ≤ bound fs
members_length later no_fields = omega arith
members_length later (field name t fs) =
    let rest = members_text true (fields_data fs) in
    let named = quoted_length name in
    let more = members_length true fs in
    omega (
      arith,
      named,
      more,
      comma later,
      length-append (comma_if later) (quoted name ++ 58 ∷ (canonical t ++ rest)),
      length-append (quoted name) (58 ∷ (canonical t ++ rest)),
      length-append (canonical t) rest,
    )
  where
    comma : (later : Bool) → length (comma_if later) ≤ 1
    comma true = omega arith
    comma false = omega arith

pub object_length : (fs : Fields) → length (canonical (object fs)) ≤ bound fs + 1
object_length fs = let inside = members_length false fs in omega (arith, inside)

-- an object ends in `}`, which is 125
abbrev pub EndsIn : ℕ → List ℕ → Type 0
EndsIn b bytes = (front : List ℕ) × (bytes ≡ front ++ b ∷ [])

members_end : (later : Bool) (fs : Fields) → EndsIn 125 (members_text later (fields_data fs))
members_end later no_fields = ([], refl)
members_end later (field name t fs) =
    let rest = members_end true fs in (
      comma_if later ++ (quoted name ++ 58 ∷ (canonical t ++ rest.0)),
      ap (λ (r : List ℕ). comma_if later ++ (quoted name ++ 58 ∷ (canonical t ++ r))) rest.1
          ∙ regroup (comma_if later) (quoted name) (canonical t) rest.0,
    )
  where
    regroup : (a b c d : List ℕ) → a ++ (b ++ 58 ∷ (c ++ (d ++ 125 ∷ []))) ≡ (a ++ (b ++ 58 ∷ (c ++ d))) ++ 125 ∷ []
    regroup a b c d =
        ap (λ (r : List ℕ). a ++ (b ++ 58 ∷ r)) (sym (append_assoc c d (125 ∷ [])))
        ∙ ap (λ (r : List ℕ). a ++ r) (sym (append_assoc b (58 ∷ (c ++ d)) (125 ∷ [])))
        ∙ sym (append_assoc a (b ++ 58 ∷ (c ++ d)) (125 ∷ []))

pub object_end : (fs : Fields) → EndsIn 125 (canonical (object fs))
object_end fs = let inside = members_end false fs in (123 ∷ inside.0, ap (λ (r : List ℕ). 123 ∷ r) inside.1)
