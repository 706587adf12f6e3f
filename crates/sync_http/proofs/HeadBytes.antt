-- The bytes of the heads that are written, and what is read of them.
use Rattle.std.proofs.Common.{◌≡◌, ℕ, suc, ◌+◌, ◌^◌, ◌<◌, ◌≤◌, Bool, true, false, not, cond, eqb, leb, List, []}
use Rattle.std.proofs.Common.{◌∷◌, ◌++◌, length, reverse, Some, refl, sym, ap, ◌∙◌, arith, decimal, take}
use Rattle.std.proofs.Common.{drop, append_assoc}
use Rattle.std.specs.List.{list_all, position_or_len, prefix_len}
use Rattle.std.specs.Char.{is_ascii_digit}
use Rattle.std.proofs.lemmas.Bool.{and_parts, and_from, le-leb, ltb-true}
use Rattle.std.proofs.lemmas.Bool.Decides.{nat_tests}
use Rattle.std.proofs.lemmas.Fmt.{decimal_nonempty, digits_decimal, digits_value-decimal, length-decimal-le}
use Rattle.std.proofs.lemmas.List.{take_at, drop_at, length_push}
use Rattle.std.proofs.lemmas.List.Elements.{All-nil, All-cons, All-head}
use Rattle.httparse.specs.Grammar.{AllPass, IsField, IsToken, is_ows, is_token, is_token_byte, is_uri_byte}
use Rattle.httparse.specs.Grammar.{is_value_byte, skip_ows, trim_ows}
use Rattle.httparse.proofs.TrimLemmas.{AllPass-reverse, trim_ows_space}
use Rattle.u1_base.specs.Ids.{is_allowed}
use Rattle.u1_base.specs.declared.limits.TheConstants.{GREATEST_COUNT}
use Rattle.u1_base.specs.declared.ids.Form.{Form}
use Rattle.u1_base.specs.declared.ids.Form.TheVariants.{Document, Replica, Transaction, Name}
use Rattle.sync_http.specs.Fields.{number_in}
use Rattle.sync_http.specs.Slashes.{part_of, rest_of}
use Rattle.sync_http.specs.Written.{field}
use Rattle.sync_http.specs.declared.fields.TheConstants.{MOST_DIGITS}
use Rattle.sync_http.proofs.Numerals.{own_numerals, number_at}

-- ---- tests of all bytes

pub AllPass-test : (p : ℕ → Bool) (xs : List ℕ) → list_all p xs ≡ true → AllPass p xs
AllPass-test p [] all = All-nil (λ b. p b ≡ true)
AllPass-test p (x ∷ xs) all =
    let parts = and_parts (p x) (list_all p xs) all in
    All-cons (λ b. p b ≡ true) x xs parts.0 (AllPass-test p xs parts.1)

pub IsToken-test : (s : List ℕ) → is_token s ≡ true → IsToken s
IsToken-test s token =
    let parts = and_parts _ (list_all is_token_byte s) token in
    (ltb-true _ _ parts.0, AllPass-test is_token_byte s parts.1)

pub weaker : (p q : ℕ → Bool) → ((b : ℕ) → p b ≡ true → q b ≡ true) → (xs : List ℕ) → list_all p xs ≡ true
    → list_all q xs ≡ true
weaker p q h [] all = refl
weaker p q h (x ∷ xs) all =
    let parts = and_parts (p x) (list_all p xs) all in and_from _ _ (h x parts.0) (weaker p q h xs parts.1)

pub both_pass : (p : ℕ → Bool) (xs ys : List ℕ) → list_all p xs ≡ true → list_all p ys ≡ true
    → list_all p (xs ++ ys) ≡ true
both_pass p [] ys h g = g
both_pass p (x ∷ xs) ys h g =
    let parts = and_parts (p x) (list_all p xs) h in and_from _ _ parts.0 (both_pass p xs ys parts.1 g)

pub uri_byte : (form : Form) (b : ℕ) → is_allowed form b ≡ true → is_uri_byte b ≡ true
uri_byte Document b e = grind (arith, nat_tests, e)
uri_byte Replica b e = grind (arith, nat_tests, e)
uri_byte Transaction b e = grind (arith, nat_tests, e)
uri_byte Name b e = grind (arith, nat_tests, e)

pub value_byte : (b : ℕ) → is_ascii_digit b ≡ true → is_value_byte b ≡ true
value_byte b e = grind (arith, nat_tests, e)

no_blank : (b : ℕ) → is_ascii_digit b ≡ true → is_ows b ≡ false
no_blank b e = grind (arith, nat_tests, e)

pub no_slash : (form : Form) (b : ℕ) → is_allowed form b ≡ true → not (eqb b 47) ≡ true
no_slash Document b e = grind (arith, nat_tests, e)
no_slash Replica b e = grind (arith, nat_tests, e)
no_slash Transaction b e = grind (arith, nat_tests, e)
no_slash Name b e = grind (arith, nat_tests, e)

-- ---- fields

pub IsField-field : (name value : List ℕ) → is_token name ≡ true → list_all is_value_byte value ≡ true
    → IsField (field name value)
IsField-field name value token plain = record {
  name = IsToken-test name token;
  raw = AllPass-test is_value_byte (32 ∷ value) plain;
}

-- ---- numbers

pub digits_pass : (n : ℕ) → n < 2 ^ 64 → list_all is_ascii_digit (decimal n) ≡ true
digits_pass n fits = digits_decimal own_numerals n fits

skip_digits : (v : List ℕ) → AllPass is_ascii_digit v → skip_ows v ≡ v
skip_digits [] all = refl
skip_digits (b ∷ v) all = ap (λ t. cond t (skip_ows v) (b ∷ v))
    (no_blank b (All-head (λ d. is_ascii_digit d ≡ true) b v all))

-- the blank before a number is no part of the value
pub trim_decimal : (n : ℕ) → n < 2 ^ 64 → trim_ows (32 ∷ decimal n) ≡ decimal n
trim_decimal n fits =
    let all = AllPass-test is_ascii_digit (decimal n) (digits_pass n fits) in
    trim_ows_space (decimal n) (skip_digits (decimal n) all)
    (skip_digits (reverse (decimal n)) (AllPass-reverse is_ascii_digit (decimal n) all))

pub number_in-decimal : (n : ℕ) → n ≤ GREATEST_COUNT → number_in (decimal n) ≡ Some n
number_in-decimal n few =
    let fits : n < 2 ^ 64 = omega (arith, few) in
    let value = digits_value-decimal own_numerals n fits in
    number_at (decimal n) true
    (and_from _ _ (and_from _ _ (le-leb 1 (length (decimal n)) (decimal_nonempty n fits))
    (le-leb (length (decimal n)) MOST_DIGITS (length-decimal-le 19 n (omega arith) (omega (arith, few)) fits)))
    (digits_pass n fits))
    (ap (λ m. leb m GREATEST_COUNT) value ∙ le-leb n GREATEST_COUNT few)
    ∙ ap Some value

-- ---- slashes

slash_at : (a r : List ℕ) → list_all (λ b. not (eqb b 47)) a ≡ true
    → position_or_len (λ b. eqb b 47) (a ++ 47 ∷ r) ≡ length a
slash_at [] r h = refl
slash_at (b ∷ a) r h =
    let parts = and_parts (not (eqb b 47)) (list_all (λ x. not (eqb x 47)) a) h in
    ap (λ t. cond t (1 + prefix_len (λ x. not (eqb x 47)) (a ++ 47 ∷ r)) 0) parts.0
    ∙ ap (λ n. 1 + n) (slash_at a r parts.1) ∙ one_more (length a)
  where
    one_more : (n : ℕ) → 1 + n ≡ suc n
    one_more n = omega arith

pub part_before : (a r : List ℕ) → list_all (λ b. not (eqb b 47)) a ≡ true → part_of (a ++ 47 ∷ r) ≡ a
part_before a r h = ap (λ k. take k (a ++ 47 ∷ r)) (slash_at a r h) ∙ take_at a (47 ∷ r) (length a) refl

pub rest_behind : (a r : List ℕ) → list_all (λ b. not (eqb b 47)) a ≡ true → rest_of (a ++ 47 ∷ r) ≡ r
rest_behind a r h =
    ap (λ k. drop (k + 1) (a ++ 47 ∷ r)) (slash_at a r h)
    ∙ ap (drop (length a + 1)) (sym (append_assoc a (47 ∷ []) r))
    ∙ drop_at (a ++ 47 ∷ []) r (length a + 1) (length_push a 47)
