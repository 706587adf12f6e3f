-- A text, a whole number or a word at the front of a text.
use Rattle.std.proofs.Common.{◌≡◌, ℕ, zero, suc, ◌+◌, ◌-◌, ◌^◌, ◌≤◌, ◌<◌, ◌==◌, ◌||◌, Bool, true, false, not}
use Rattle.std.proofs.Common.{List, [], ◌∷◌, ◌++◌, length, take, drop, get_or}
use Rattle.std.proofs.Common.{Option, Some, None, IfSome, MatchOption, Bor, IsUtf8}
use Rattle.std.proofs.Common.{pos, negsuc, decimal, nat_lt, nat_le, refl, sym, ap, ap₂, ◌∙◌, subst, arith, append_assoc}
use Rattle.std.proofs.Common.{length-take, length-drop, get_or-take, take_all}
use Rattle.std.proofs.Math.Nat.{pow-le-pow_right}
use Rattle.std.proofs.lemmas.Bool.{or_parts, eqb-false, leb-false, ltb-false}
use Rattle.std.proofs.lemmas.Fmt.{decimal-digits_value, decimal_digit}
use Rattle.std.proofs.lemmas.Int.Digits.{digits_value-lt}
use Rattle.std.proofs.lemmas.List.{take-append-drop}
use Rattle.std.proofs.lemmas.List.Quantifiers.{position-Some}
use Rattle.std.proofs.lemmas.Option.{IfSome_then}
use Rattle.std.proofs.lemmas.Str.Parse.{IsNumeralModel, numerals_by_value, tells_by_index}
use Rattle.std.proofs.lemmas.Str.{IsUtf8-from_ascii}
use Rattle.std.proofs.lemmas.Str.Ascii.{IsAscii-from_reads}
use Rattle.std.specs.Char.{is_ascii_digit}
use Rattle.std.specs.Int.{IsInRange}
use Rattle.std.specs.Prelude.{position}
use Rattle.std.specs.Str.Parse.{digits_value}
use Rattle.json.specs.Print.{escape, quoted}
use Rattle.json.specs.Run.{is_stop}
use Rattle.json.proofs.Printed.Strings.{escape_byte_plain}
use Rattle.content.specs.Tree.{Tree, whole, text, nesting}
use Rattle.content.specs.Canonical.{canonical}
use Rattle.content.specs.Contents.{IsFormed}
use Rattle.content.specs.inner.Fronts.{IsNumberBefore, IsValueBefore}
use Rattle.content.proofs.PlainLanes.{IsPlainTo}

-- ---- the front of a list

-- a list is what stands before a place, what stands there, and what stands behind it
split_at : (xs : List ℕ) (i x : ℕ) → i < length xs → get_or xs i 0 ≡ x → take i xs ++ x ∷ drop (suc i) xs ≡ xs
split_at [] i x h e = absurd (omega (arith, h))
split_at (y ∷ ys) zero x h e = ap (λ z. z ∷ ys) (sym e)
split_at (y ∷ ys) (suc i) x h e = ap (λ (l : List ℕ). y ∷ l) (split_at ys i x (omega (arith, h)) e)

-- what a slice from a place on holds
from_place : (xs : List ℕ) (i : ℕ) → take (length xs - i) (drop i xs) ≡ drop i xs
from_place xs i = take_all _ (drop i xs) (omega (arith, length-drop i xs))

-- a list is its first element and what a pattern gives behind it
pub behind_first : (xs : List ℕ) (x : ℕ) → 1 ≤ length xs → get_or xs 0 0 ≡ x
    → xs ≡ x ∷ take (length xs - 1) (drop 1 xs)
behind_first [] x some e = absurd (omega (arith, some))
behind_first (y ∷ ys) x some e =
    ap (λ z. z ∷ ys) e ∙ ap (λ (l : List ℕ). x ∷ l) (sym (from_place (y ∷ ys) 1))

-- ---- texts

escape_front : (bytes : List ℕ) → ((k : ℕ) → k < length bytes → is_stop (get_or bytes k 0) ≡ false)
    → escape bytes ≡ bytes
escape_front [] h = refl
escape_front (x ∷ xs) h =
    let none = or_parts (x == 34 || x == 92) (nat_lt x 32) (h 0 (omega arith)) in
    let tests = or_parts (x == 34) (x == 92) none.0 in
    let rest = escape_front xs (λ k below. h (suc k) (omega (arith, below))) in
    ap₂ (λ (a b : List ℕ). a ++ b)
    (escape_byte_plain x (eqb-false x 34 tests.0) (eqb-false x 92 tests.1) (ltb-false x 32 none.1)) rest

-- what stands before a closing quote is written as it is
pub plain_front : (bytes : List ℕ) (i : ℕ) → i < length bytes
    → ((k : ℕ) → k < i → is_stop (get_or bytes k 0) ≡ false) → get_or bytes i 0 ≡ 34
    → 34 ∷ bytes ≡ quoted (take i bytes) ++ take (length bytes - (i + 1)) (drop (i + 1) bytes)
plain_front bytes i within none q =
    let front : escape (take i bytes) ≡ take i bytes =
    escape_front (take i bytes)
    (λ k below. ap is_stop (get_or-take i bytes k 0 (omega (arith, below, length-take i bytes)))
    ∙ none k (omega (arith, below, length-take i bytes))) in
    let next : suc i ≡ i + 1 = omega arith in
    sym (append_assoc (34 ∷ escape (take i bytes)) (34 ∷ []) (drop (i + 1) bytes)
    ∙ ap (λ (l : List ℕ). 34 ∷ (l ++ 34 ∷ drop (i + 1) bytes)) front
    ∙ ap (λ n. 34 ∷ (take i bytes ++ 34 ∷ drop n bytes)) (sym next)
    ∙ ap (λ (l : List ℕ). 34 ∷ l) (split_at bytes i 34 within q))
    ∙ ap (λ (l : List ℕ). quoted (take i bytes) ++ l) (sym (from_place bytes (i + 1)))

-- the same of plain ASCII, which is UTF-8
pub ascii_front : (bytes : List ℕ) (i : ℕ) → i < length bytes → IsPlainTo bytes i → get_or bytes i 0 ≡ 34
    → 34 ∷ bytes ≡ quoted (take i bytes) ++ take (length bytes - (i + 1)) (drop (i + 1) bytes)
ascii_front bytes i within plain =
    plain_front bytes i within
    (λ k below. (or_parts (is_stop (get_or bytes k 0)) (nat_le 128 (get_or bytes k 0)) (plain k below)).0)

pub IsUtf8-plain : (bytes : List ℕ) (i : ℕ) → i ≤ length bytes → IsPlainTo bytes i → IsUtf8 (take i bytes)
IsUtf8-plain bytes i within plain =
    IsUtf8-from_ascii (take i bytes) (IsAscii-from_reads (take i bytes) i (omega (arith, length-take i bytes))
    (λ k below. subst (λ b. b < 128) (sym (get_or-take i bytes k 0 below))
    (leb-false 128 (get_or bytes k 0)
    (or_parts (is_stop (get_or bytes k 0)) (nat_le 128 (get_or bytes k 0)) (plain k below)).1)))

-- ---- numbers

not_false : (b : Bool) → not b ≡ false → b ≡ true
not_false true e = refl
not_false false e = absurd (cc)

is_digit : (x : ℕ) → is_ascii_digit x ≡ true → IsInRange 48 57 x
is_digit x e = grind (arith, e)

digit_of : (x : ℕ) → not (is_ascii_digit x) ≡ false → IsInRange 48 57 x
digit_of x e = is_digit x (not_false (is_ascii_digit x) e)

own_digits : IsNumeralModel (λ ds. (i : ℕ) → i < length ds → IsInRange 48 57 (get_or ds i 0)) (digits_value 10)
own_digits = numerals_by_value _ tells_by_index

-- digits at the front, of which there are few and the first is a zero only if it is the only one, are a number's text
pub number_front : (bytes : List ℕ) (i : ℕ) → position (λ b. not (is_ascii_digit b)) bytes ≡ Some i → 0 < i → i ≤ 18
    → (get_or bytes 0 0 ≡ 48 → i ≡ 1)
    → (n : ℕ) × (n < 10 ^ 18) × (bytes ≡ decimal n ++ take (length bytes - i) (drop i bytes))
number_front bytes i e some few led =
    let found = position-Some (λ b. not (is_ascii_digit b)) bytes i 0 e in
    let ds = take i bytes in
    let long : length ds ≡ i = omega (arith, found.0, length-take i bytes) in
    let digits : (k : ℕ) → k < length ds → IsInRange 48 57 (get_or ds k 0) =
    λ k below. subst (IsInRange 48 57) (sym (get_or-take i bytes k 0 (omega (arith, below, long))))
    (digit_of (get_or bytes k 0) (found.2 k (omega (arith, below, long)))) in
    let n = digits_value 10 ds in
    let below : n < 10 ^ length ds = digits_value-lt 10 ds (own_digits.to ds digits) in
    let most : 10 ^ length ds ≤ 10 ^ 18 =
    pow-le-pow_right {n = 10} (omega arith) {i = length ds} {j = 18} (omega (arith, long, few)) in
    let small : n < 10 ^ 18 = omega (arith, below, most) in
    let spelled : decimal n ≡ ds = decimal-digits_value own_digits ds digits (omega (arith, long, some))
    (λ z. long ∙ led (sym (get_or-take i bytes 0 0 some) ∙ z)) (omega (arith, small)) in (
      n,
      small,
      sym (ap (λ (l : List ℕ). l ++ drop i bytes) spelled ∙ take-append-drop i bytes)
          ∙ ap (λ (l : List ℕ). decimal n ++ l) (sym (from_place bytes i)),
    )

-- a number whose text does not begin with a zero is above zero
pub above_zero : (bytes rest : List ℕ) (n : ℕ) → 48 < get_or bytes 0 0 → bytes ≡ decimal n ++ rest → 0 < n
above_zero bytes rest zero h e =
    let led : get_or bytes 0 0 ≡ 48 =
    ap (λ l. get_or l 0 0) (e ∙ ap (λ (l : List ℕ). l ++ rest) (decimal_digit 0 (omega arith))) in
    absurd (omega (arith, h, led))
above_zero bytes rest (suc n) h e = omega arith

-- ---- values

-- what is known of the value in a `Some`
pub some_of_match : {X : Type 0} (P : Type 0) (Q : X → Type 0) (r : Option X) → MatchOption r P Q → IfSome r Q
some_of_match P Q None h = tt
some_of_match P Q (Some x) h = h

pub text_value : (bytes s rest : List ℕ) → 34 ∷ bytes ≡ quoted s ++ rest → IsUtf8 s → IsValueBefore 0 (34 ∷ bytes) rest
text_value bytes s rest e u = (text s, (u, omega arith, e))

pub number_value : (bytes rest : List ℕ) (n : ℕ) → n < 10 ^ 18 → bytes ≡ decimal n ++ rest → IsValueBefore 0 bytes rest
number_value bytes rest n small e = (whole (pos n), (omega (arith, small), omega arith, e))

pub negative_value : (bytes digits rest : List ℕ) (n : ℕ) → bytes ≡ 45 ∷ digits → 0 < n → n < 10 ^ 18
    → digits ≡ decimal n ++ rest → IsValueBefore 0 bytes rest
negative_value bytes digits rest zero first some small e = absurd (omega (arith, some))
negative_value bytes digits rest (suc n) first some small e =
    (whole (negsuc n), (omega (arith, small), omega arith, first ∙ ap (λ (l : List ℕ). 45 ∷ l) e))

-- the same of a number as such
pub number_before : (bytes rest : List ℕ) (n : ℕ) → n < 10 ^ 18 → bytes ≡ decimal n ++ rest → IsNumberBefore bytes rest
number_before bytes rest n small e = (pos n, omega (arith, small), e)

pub negative_before : (bytes digits rest : List ℕ) (n : ℕ) → bytes ≡ 45 ∷ digits → 0 < n → n < 10 ^ 18
    → digits ≡ decimal n ++ rest → IsNumberBefore bytes rest
negative_before bytes digits rest zero first some small e = absurd (omega (arith, some))
negative_before bytes digits rest (suc n) first some small e =
    (negsuc n, omega (arith, small), first ∙ ap (λ (l : List ℕ). 45 ∷ l) e)

-- a word that is a tree's whole text
pub word_value : (t : Tree) (bytes : List ℕ) (r : Option (Bor (List ℕ))) → IsFormed t → nesting t ≤ 0
    → IfSome r (λ rest. bytes ≡ canonical t ++ rest.now) → IfSome r (λ rest. IsValueBefore 0 bytes rest.now)
word_value t bytes r formed flat h = IfSome_then r h (λ rest e. (t, (formed, flat, e)))
