-- The number that a numeral says.
use Rattle.std.proofs.Common.{◌≡◌, ℕ, zero, suc, ◌<◌, ◌≤◌, ◌^◌, ◌&&◌, Bool, true, false, List, [], ◌∷◌, length}
use Rattle.std.proofs.Common.{Some, None, Result, Ok, Err, refl, sym, ◌∙◌, ap, subst, arith, rules, ap₂, leb, inl}
use Rattle.std.proofs.Common.{inr, IsAscii, IsUtf8, if◌then◌else◌}
use Rattle.std.specs.List.{list_all}
use Rattle.std.specs.Char.{is_ascii_digit}
use Rattle.std.specs.Str.Parse.{digits_value, ParsesUnsigned}
use Rattle.std.proofs.lemmas.Str.{IsUtf8-from_ascii}
use Rattle.std.proofs.lemmas.Str.Parse.{IsNumeralModel, numerals_by_value, parse_digits}
use Rattle.std.proofs.lemmas.Bool.{le-leb, lt-leb, leb-true, and_parts, cases_lt}
use Rattle.u1_base.specs.declared.limits.TheConstants.{GREATEST_COUNT}
use Rattle.sync_http.specs.Fields.{is_numeral, number_in}
use Rattle.sync_http.specs.declared.fields.TheConstants.{MOST_DIGITS}

pub own_numerals : IsNumeralModel (λ ds. list_all is_ascii_digit ds ≡ true) (digits_value 10)
own_numerals = numerals_by_value (λ ds. list_all is_ascii_digit ds ≡ true) (search rules)

all_digits : (ds : List ℕ) → is_numeral ds ≡ true → list_all is_ascii_digit ds ≡ true
all_digits ds e = (and_parts _ (list_all is_ascii_digit ds) e).1

some_digits : (ds : List ℕ) → is_numeral ds ≡ true → 1 ≤ length ds
some_digits ds e = leb-true 1 (length ds)
    (and_parts (leb 1 (length ds)) (leb (length ds) MOST_DIGITS) (and_parts _ (list_all is_ascii_digit ds) e).0).0

-- digits are ASCII
digit_small : (b : ℕ) → is_ascii_digit b ≡ true → b < 128
digit_small b e = grind (arith, e)

digits_ascii : (ds : List ℕ) → list_all is_ascii_digit ds ≡ true → IsAscii ds
digits_ascii [] e i = omega arith
digits_ascii (d ∷ ds) e zero = digit_small d (and_parts (is_ascii_digit d) (list_all is_ascii_digit ds) e).0
digits_ascii (d ∷ ds) e (suc i) = digits_ascii ds (and_parts (is_ascii_digit d) (list_all is_ascii_digit ds) e).1 i

pub numerals_are_text : (ds : List ℕ) → is_numeral ds ≡ true → IsUtf8 ds
numerals_are_text ds e = IsUtf8-from_ascii ds (digits_ascii ds (all_digits ds e))

-- no numeral
pub no_number : (ds : List ℕ) → is_numeral ds ≡ false → number_in ds ≡ None
no_number ds e = rw e refl

pub number_at : (ds : List ℕ) (b : Bool) → is_numeral ds ≡ true → leb (digits_value 10 ds) GREATEST_COUNT ≡ b
    → number_in ds ≡ (if b then Some (digits_value 10 ds) else None)
number_at ds b is few = ap₂ (λ x y. if x && y then Some (digits_value 10 ds) else None) is few

the_value : {E : Type 0} (ds : List ℕ) (r : Result ℕ E) (n : ℕ) → r ≡ Ok n → is_numeral ds ≡ true
    → ParsesUnsigned 64 10 ds r → n ≡ digits_value 10 ds
the_value {E} ds r n ok is p =
    (parse_digits own_numerals {E = E} 64 ds (Ok n) (subst (ParsesUnsigned 64 10 ds) ok p) (all_digits ds is)).1

-- a numeral whose number is small enough
pub the_number : {E : Type 0} (ds : List ℕ) (r : Result ℕ E) (n : ℕ) → r ≡ Ok n → is_numeral ds ≡ true
    → ParsesUnsigned 64 10 ds r → n ≤ GREATEST_COUNT → number_in ds ≡ Some n
the_number ds r n ok is p small =
    let same = the_value ds r n ok is p in
    number_at ds true is (le-leb (digits_value 10 ds) GREATEST_COUNT (subst (λ m. m ≤ GREATEST_COUNT) same small))
    ∙ ap Some (sym same)

-- one whose number is too great
pub a_great_number : {E : Type 0} (ds : List ℕ) (r : Result ℕ E) (n : ℕ) → r ≡ Ok n → is_numeral ds ≡ true
    → ParsesUnsigned 64 10 ds r → GREATEST_COUNT < n → number_in ds ≡ None
a_great_number ds r n ok is p great =
    number_at ds false is (lt-leb (digits_value 10 ds) GREATEST_COUNT
    (subst (λ m. GREATEST_COUNT < m) (the_value ds r n ok is p) great))

-- one that `parse` refuses
pub refused_number : {E : Type 0} (ds : List ℕ) (r : Result ℕ E) (e : E) → r ≡ Err e → is_numeral ds ≡ true
    → ParsesUnsigned 64 10 ds r → number_in ds ≡ None
refused_number ds r e err is p =
    number_at ds false is (too_great (digits_value 10 ds)
    (λ small. parse_digits own_numerals 64 ds (Err e) (subst (ParsesUnsigned 64 10 ds) err p) (all_digits ds is)
    (some_digits ds is, small)))
  where
    too_great : (n : ℕ) → ¬ (n < 2 ^ 64) → leb n GREATEST_COUNT ≡ false
    too_great n h = elim (cases_lt GREATEST_COUNT n) [
      | inl high ↦ lt-leb n GREATEST_COUNT high
      | inr low ↦ absurd (h (omega (arith, low)))
    ]
