-- A number is written no longer than it was read.
use Rattle.std.proofs.Common.{◌≡◌, ℕ, zero, suc, ◌+◌, ◌-◌, ◌^◌, ◌<◌, ◌≤◌, Bool, true, false, cond, not, ◌&&◌, ◌==◌}
use Rattle.std.proofs.Common.{nat_lt, nat_le, pos, neg_ℤ, List, [], ◌∷◌, ◌++◌, length, drop, slice_index, Option, Some}
use Rattle.std.proofs.Common.{None, decimal, refl, ap, ◌∙◌, subst, arith, length-take, append-nil}
use Rattle.std.proofs.lemmas.Bool.{and_parts, ltb-true, leb-true, not-true}
use Rattle.std.proofs.lemmas.Fmt.{length-decimal-le}
use Rattle.std.proofs.lemmas.Int.Digits.{digits_value-lt}
use Rattle.std.specs.Prelude.{⊤}
use Rattle.std.specs.Float.{binary64, float_is_finite}
use Rattle.std.specs.Fmt.{signed_decimal}
use Rattle.fast_float.specs.Text.{Parts, scan, digits_of, digits_end, minus, nearest, with_sign}
use Rattle.fast_float.proofs.Reading.{scan_numeral-AllDigits}
use Rattle.serde_json.specs.Data.{Num, unsigned, negative, float}
use Rattle.serde_json.specs.Read.{number_of, number_from, float_of, is_integer}
use Rattle.serde_json.specs.Written.{number_text}

-- the number, where there is one, is written in at most n bytes
abbrev Within : ℕ → Option Num → Type 0
Within n None = ⊤
Within n (Some x) = length (number_text x) ≤ n

Within-cond : (n : ℕ) (b : Bool) (x y : Option Num) → (b ≡ true → Within n x) → Within n y → Within n (cond b x y)
Within-cond n true x y p q = p refl
Within-cond n false x y p q = q

within_float : (n : ℕ) (sign : Bool) (p : Parts) → Within n (float_of sign p)
within_float n sign p = let x = nearest binary64 sign p
    in Within-cond n (float_is_finite x) (Some (float x)) None (λ e. omega arith) (tt {0})

no_fraction : (point : Bool) (xs : List ℕ) → point ≡ false → cond point xs [] ≡ []
no_fraction true xs e = absurd (cc)
no_fraction false xs e = refl

-- an integer that begins the bytes is less than ten to their count, and has a digit
fraction_of_integer : (bs : List ℕ) → is_integer (scan bs) ≡ true → (0 < length (scan bs).whole)
    × ((scan bs).fraction ≡ [])
unfolding scan
fraction_of_integer bs e =
    let p = scan bs in
    let q = and_parts (nat_lt 0 (length p.whole) && not p.point) (length p.exponent == 0) e in
    let r = and_parts (nat_lt 0 (length p.whole)) (not p.point) q.0 in
    (ltb-true 0 (length p.whole) r.0, no_fraction p.point _ (not-true p.point r.1))

whole_within : (bs : List ℕ) → length (scan bs).whole ≤ length bs
unfolding scan
whole_within bs = omega (arith, length-take (digits_end bs 0 - 0) bs)

length-decimal-scan : (bs : List ℕ) → is_integer (scan bs) ≡ true → digits_of (scan bs) < 2 ^ 64
    → length (decimal (digits_of (scan bs))) ≤ length bs
length-decimal-scan bs e fits =
    let p = scan bs in
    let i = fraction_of_integer bs e in
    let same : p.whole ++ p.fraction ≡ p.whole = ap (λ f. p.whole ++ f) i.1 ∙ append-nil p.whole in
    let small : digits_of p < 10 ^ length p.whole = rw same (digits_value-lt 10 p.whole (scan_numeral-AllDigits bs).0)
    in
    omega (arith, length-decimal-le (length p.whole) (digits_of p) i.0 small fits, whole_within bs)

length-negative : (n : ℕ) → 0 < n → length (signed_decimal (neg_ℤ (pos n))) ≡ 1 + length (decimal n)
length-negative zero h = absurd (omega arith)
length-negative (suc n) h = omega arith

within_unsigned : (bs : List ℕ) → Within (length bs) (number_from false (scan bs))
within_unsigned bs =
    let n = digits_of (scan bs) in
    Within-cond (length bs) (is_integer (scan bs) && nat_lt n (2 ^ 64)) (Some (unsigned n)) (float_of false (scan bs))
    (λ e. let q = and_parts (is_integer (scan bs)) (nat_lt n (2 ^ 64)) e
    in length-decimal-scan bs q.0 (ltb-true n (2 ^ 64) q.1)) (within_float (length bs) false (scan bs))

within_negative : (bs : List ℕ) → Within (1 + length bs) (number_from true (scan bs))
within_negative bs =
    let n = digits_of (scan bs) in
    Within-cond (1 + length bs) (is_integer (scan bs) && nat_lt 0 n && nat_le n (2 ^ 63))
    (Some (negative (with_sign true n))) (float_of true (scan bs))
    (λ e.
    let q = and_parts (is_integer (scan bs) && nat_lt 0 n) (nat_le n (2 ^ 63)) e in
    let r = and_parts (is_integer (scan bs)) (nat_lt 0 n) q.0 in
    let fits : n ≤ 2 ^ 63 = leb-true n (2 ^ 63) q.1 in
    omega (arith, length-negative n (ltb-true 0 n r.1), length-decimal-scan bs r.0 (omega arith)))
    (within_float (1 + length bs) true (scan bs))

behind_minus : (s : List ℕ) → (slice_index s 0 == minus) ≡ true → 1 + length (drop 1 s) ≡ length s
behind_minus [] e = absurd (cc)
behind_minus (x ∷ xs) e = omega arith

Within-number_of : (s : List ℕ) → Within (length s) (number_of s)
unfolding number_of
Within-number_of s =
    Within-cond (length s) (slice_index s 0 == minus) (number_from true (scan (drop 1 s))) (number_from false (scan s))
    (λ e. subst (λ n. Within n (number_from true (scan (drop 1 s)))) (behind_minus s e) (within_negative (drop 1 s)))
    (within_unsigned s)

pub number_short : (s : List ℕ) (x : Num) → number_of s ≡ Some x → length (number_text x) ≤ length s
number_short s x e = subst (Within (length s)) e (Within-number_of s)
