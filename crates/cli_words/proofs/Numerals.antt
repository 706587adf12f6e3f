-- What `parse` gives for a number among words.
use Rattle.std.proofs.Common.{◌≡◌, ℕ, ◌<◌, ◌≤◌, ◌^◌, Bool, true, false, cond, not, ◌&&◌, List, length, Some, None}
use Rattle.std.proofs.Common.{Result, Ok, Err, refl, ap, ◌∙◌, arith, inl, inr}
use Rattle.std.specs.Prelude.{MatchResult, nat_le, slice_index, ◌==◌}
use Rattle.std.specs.List.{list_all}
use Rattle.std.specs.Char.{is_ascii_digit}
use Rattle.std.specs.Str.Parse.{digits_value, ParsesUnsigned}
use Rattle.std.proofs.lemmas.Str.Parse.{parse_digits}
use Rattle.std.proofs.lemmas.Bool.{lt-leb, leb-true, and_parts, cases_lt}
use Rattle.vector_rev.proofs.Reading.{own_numerals}
use Rattle.cli_words.specs.Numbers.{is_number, number_in}

some_digits : (ds : List ℕ) → is_number ds ≡ true → (list_all is_ascii_digit ds ≡ true) × (1 ≤ length ds)
some_digits ds e =
    let parts = and_parts (nat_le 1 (length ds) && not (slice_index ds 0 == 48 && nat_le 2 (length ds)))
    (list_all is_ascii_digit ds) e in
    let front = and_parts (nat_le 1 (length ds)) (not (slice_index ds 0 == 48 && nat_le 2 (length ds))) parts.0 in
    (parts.1, leb-true 1 (length ds) front.0)

none_of : (b : Bool) (n : ℕ) → cond (b && false) (Some n) None ≡ None
none_of true n = refl
none_of false n = refl

too_big : (b : Bool) (n greatest : ℕ) → greatest < 2 ^ 64 → ¬ (n < 2 ^ 64)
    → cond (b && nat_le n greatest) (Some n) None ≡ None
too_big b n greatest small far =
    elim (cases_lt greatest n) [
      | inl high ↦ ap (λ t. cond (b && t) (Some n) None) (lt-leb n greatest high) ∙ none_of b n
      | inr low ↦ absurd (far (omega (arith, low, small)))
    ]

pub parsed_number : {E : Type 0} (least greatest : ℕ) (ds : List ℕ) (r : Result ℕ E) → is_number ds ≡ true
    → greatest < 2 ^ 64
    → ParsesUnsigned 64 10 ds r → MatchResult r (λ n. n ≡ digits_value 10 ds) (λ _. number_in least greatest ds ≡ None)
parsed_number {E} least greatest ds (Ok n) is small p =
    (parse_digits own_numerals {E = E} 64 ds (Ok n) p (some_digits ds is).0).1
parsed_number least greatest ds (Err e) is small p =
    too_big (is_number ds && nat_le least (digits_value 10 ds)) (digits_value 10 ds) greatest small
    (λ fits. parse_digits own_numerals 64 ds (Err e) p (some_digits ds is).0 ((some_digits ds is).1, fits))
