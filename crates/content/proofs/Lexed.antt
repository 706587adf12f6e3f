-- The lexemes of a text are written no longer than the text.
use Rattle.std.proofs.Common.{◌≡◌, ℕ, suc, ◌+◌, ◌-◌, ◌*◌, ◌≤◌, Bool, true, false, cond, not, ◌&&◌, ◌||◌, ◌==◌, nat_eq}
use Rattle.std.proofs.Common.{nat_lt, nat_le, inl, inr, List, [], ◌∷◌, length, take, drop, Option, Some, None}
use Rattle.std.proofs.Common.{option_and_then, encode_utf8, refl, sym, ap, ◌∙◌, subst, arith, length-take}
use Rattle.std.proofs.Common.{length-append}
use Rattle.std.proofs.lemmas.Bool.{and_parts, or_cases, eqb-true, leb-true, ne_eqb}
use Rattle.std.specs.Prelude.{⊤}
use Rattle.std.specs.List.{prefix_len, starts_with}
use Rattle.std.specs.Char.{is_ascii_digit, is_digit, digit_value}
use Rattle.json.specs.Ascii as ascii
use Rattle.json.specs.Token.{Token, begin_object, end_object, begin_array, end_array, boolean, number, null, bad}
use Rattle.json.specs.Text.{content, plain, after_backslash, after_u, after_high, code_unit, short_escape, prepend}
use Rattle.json.specs.Text.{is_high_surrogate, is_low_surrogate, surrogate_pair}
use Rattle.json.specs.Word.{head, is_operator, is_space, ends_word, after_digits, after_minus, after_sign, after_whole}
use Rattle.json.specs.Word.{after_fraction, after_exponent, after_number, literal, number_before, word}
use Rattle.json.specs.Lex.{Lexeme, token, comma, colon, Class, quote, backslash, operator, space, other, class}
use Rattle.json.specs.Lex.{operator_lexeme, string_token, between, in_word, in_string, in_escape, lex_byte, lex}
use Rattle.json.specs.Print.{token_text, escape}
use Rattle.content.proofs.Placed.{lexemes_size}
use Rattle.content.proofs.Quoted.{quoted_size, quoted_size-prepend, length-escape_plain, length-escape-encode}
use Rattle.content.proofs.Quoted.{short_escape-fits, lex-unit}

-- a byte that ends no word
abbrev in_a_word : ℕ → Bool
in_a_word x = not (is_operator x || is_space x)

-- how many bytes of a word stand at the front
abbrev word_length : List ℕ → ℕ
word_length xs = prefix_len in_a_word xs

-- ---- numbers and literals lie within the word at which they begin

-- what was passed over between the text t and its rest r is of a word
abbrev Passes : List ℕ → List ℕ → Type 0
Passes t r = length t + word_length r ≤ length r + word_length t

abbrev PassesTo : List ℕ → Option (List ℕ) → Type 0
PassesTo t None = ⊤
PassesTo t (Some r) = Passes t r

further : (t u : List ℕ) (o : Option (List ℕ)) → Passes t u → PassesTo u o → PassesTo t o
further t u None e h = tt
further t u (Some r) e h = omega arith

then : (t : List ℕ) (f : List ℕ → Option (List ℕ)) → ((u : List ℕ) → PassesTo u (f u)) → (o : Option (List ℕ))
    → PassesTo t o → PassesTo t (option_and_then f o)
then t f g None h = tt
then t f g (Some r) h = further t r (f r) h (g r)

PassesTo-cond : (t : List ℕ) (b : Bool) (x y : Option (List ℕ)) → (b ≡ true → PassesTo t x) → PassesTo t y
    → PassesTo t (cond b x y)
PassesTo-cond t true x y p q = p refl
PassesTo-cond t false x y p q = q

one_byte : (b : Bool) (n : ℕ) → b ≡ true → 1 + n ≤ cond b (1 + n) 0
one_byte true n e = omega arith
one_byte false n e = absurd (cc)

at_most_one : (b : Bool) (n : ℕ) → cond b (1 + n) 0 ≤ 1 + n
at_most_one true n = omega arith
at_most_one false n = omega arith

-- the byte c at the front, which ends no word
pass_one : (c : ℕ) (t : List ℕ) → in_a_word c ≡ true → head t ≡ c → Passes t (drop 1 t)
pass_one c [] e is = omega arith
pass_one c (x ∷ xs) e is = omega (arith, one_byte (in_a_word x) (word_length xs) (ap in_a_word is ∙ e))

pass_if : (t : List ℕ) (b : Bool) → (b ≡ true → Passes t (drop 1 t)) → Passes t (cond b (drop 1 t) t)
pass_if t true p = p refl
pass_if t false p = omega arith

digit_in_word : (x : ℕ) → is_ascii_digit x ≡ true → in_a_word x ≡ true
digit_in_word x e =
    let p = and_parts (nat_le 48 x) (nat_le x 57) e in
    let low : 48 ≤ x = leb-true 48 x p.0 in
    let high : x ≤ 57 = leb-true x 57 p.1 in
    rw (
      ne_eqb x 123 (λ h. omega arith),
      ne_eqb x 125 (λ h. omega arith),
      ne_eqb x 91 (λ h. omega arith),
      ne_eqb x 93 (λ h. omega arith),
      ne_eqb x 58 (λ h. omega arith),
      ne_eqb x 44 (λ h. omega arith),
      ne_eqb x 32 (λ h. omega arith),
      ne_eqb x 9 (λ h. omega arith),
      ne_eqb x 10 (λ h. omega arith),
      ne_eqb x 13 (λ h. omega arith),
    ) refl

digits_at : (b : Bool) (x n : ℕ) (xs : List ℕ) → (b ≡ true → in_a_word x ≡ true) → Passes xs (drop n xs)
    → Passes (x ∷ xs) (drop (cond b (1 + n) 0) (x ∷ xs))
digits_at false x n xs is passed = omega arith
digits_at true x n xs is passed =
    let next : suc n ≡ 1 + n = omega arith in
    let over : Passes (x ∷ xs) (drop (suc n) (x ∷ xs)) =
    omega (arith, one_byte (in_a_word x) (word_length xs) (is refl)) in
    subst (λ k. Passes (x ∷ xs) (drop k (x ∷ xs))) next over

digits_passed : (t : List ℕ) → Passes t (drop (prefix_len is_ascii_digit t) t)
digits_passed [] = omega arith
digits_passed (x ∷ xs) = digits_at (is_ascii_digit x) x (prefix_len is_ascii_digit xs) xs (digit_in_word x)
    (digits_passed xs)

digits : (t : List ℕ) → PassesTo t (after_digits t)
digits t = PassesTo-cond t (prefix_len is_ascii_digit t == 0) None (Some (drop (prefix_len is_ascii_digit t) t))
    (λ e. tt) (digits_passed t)

minus : (t : List ℕ) → Passes t (after_minus t)
minus t = pass_if t (head t == 45) (λ e. pass_one 45 t refl (eqb-true (head t) 45 e))

pass_either : (c d : ℕ) (t : List ℕ) → in_a_word c ≡ true → in_a_word d ≡ true → (head t == c || head t == d) ≡ true
    → Passes t (drop 1 t)
pass_either c d t p q e = elim (or_cases (head t == c) (head t == d) e) [
  | inl h ↦ pass_one c t p (eqb-true (head t) c h)
  | inr h ↦ pass_one d t q (eqb-true (head t) d h)
]

sign : (t : List ℕ) → Passes t (after_sign t)
sign t = pass_if t (head t == 45 || head t == 43) (pass_either 45 43 t refl refl)

whole_part : (t : List ℕ) → PassesTo t (after_whole t)
whole_part t = PassesTo-cond t (head t == 48) (Some (drop 1 t)) (after_digits t)
    (λ e. pass_one 48 t refl (eqb-true (head t) 48 e)) (digits t)

fraction : (t : List ℕ) → PassesTo t (after_fraction t)
fraction t =
    let u = drop 1 t in
    PassesTo-cond t (head t == 46) (after_digits u) (Some t)
    (λ e. further t u (after_digits u) (pass_one 46 t refl (eqb-true (head t) 46 e)) (digits u)) (omega arith)

exponent : (t : List ℕ) → PassesTo t (after_exponent t)
exponent t =
    let u = drop 1 t in
    let v = after_sign u in
    PassesTo-cond t (head t == 101 || head t == 69) (after_digits v) (Some t)
    (λ e. further t u (after_digits v) (pass_either 101 69 t refl refl e)
    (further u v (after_digits v) (sign u) (digits v))) (omega arith)

PassesTo-after_number : (t : List ℕ) → PassesTo t (after_number t)
unfolding after_number
PassesTo-after_number t =
    let u = after_minus t in
    let w = further t u (after_whole u) (minus t) (whole_part u) in
    then t after_exponent exponent (option_and_then after_fraction (after_whole u))
    (then t after_fraction fraction (after_whole u) w)

length-token-cond : (b : Bool) (t : Token) (n : ℕ) → (b ≡ true → length (token_text t) ≤ n)
    → length (token_text (cond b t bad)) ≤ n
length-token-cond true t n h = h refl
length-token-cond false t n h = omega arith

number_fits : (t : List ℕ) (o : Option (List ℕ)) → PassesTo t o
    → length (token_text (number_before t o)) ≤ word_length t
number_fits t None h = omega arith
number_fits t (Some r) h =
    length-token-cond (ends_word r) (number (take (length t - length r) t)) (word_length t)
    (λ e. omega (arith, length-take (length t - length r) t))

abbrev all_in_word : List ℕ → Bool
all_in_word [] = true
all_in_word (x ∷ xs) = in_a_word x && all_in_word xs

name_fits : (name t : List ℕ) → all_in_word name ≡ true → starts_with nat_eq t name ≡ true → length name ≤ word_length t
name_fits [] t words e = omega arith
name_fits (n ∷ ns) [] words e = absurd (cc)
name_fits (n ∷ ns) (x ∷ xs) words e =
    let p = and_parts (in_a_word n) (all_in_word ns) words in
    let q = and_parts (n == x) (starts_with nat_eq xs ns) e in
    omega (
      arith,
      name_fits ns xs p.1 q.1,
      one_byte (in_a_word x) (word_length xs)
          (ap in_a_word (sym (eqb-true n x q.0)) ∙ p.0),
    )

literal_fits : (name : List ℕ) (tok : Token) (t : List ℕ) → all_in_word name ≡ true
    → length (token_text tok) ≡ length name → length (token_text (literal name tok t)) ≤ word_length t
literal_fits name tok t words same =
    length-token-cond (starts_with nat_eq t name && ends_word (drop (length name) t)) tok (word_length t)
    (λ e. omega (
      arith,
      name_fits name t words
          (and_parts (starts_with nat_eq t name) (ends_word (drop (length name) t)) e).0,
    ))

length-either : (b : Bool) (x y : Token) (n : ℕ) → length (token_text x) ≤ n → length (token_text y) ≤ n
    → length (token_text (cond b x y)) ≤ n
length-either true x y n p q = p
length-either false x y n p q = q

word-fits : (t : List ℕ) → length (token_text (word t)) ≤ word_length t
unfolding word
word-fits t =
    let n = word_length t in
    let numbers = number_before t (after_number t) in
    let nulls = literal ascii.null_text null t in
    let falses = literal ascii.false_text (boolean false) t in
    let trues = literal ascii.true_text (boolean true) t in
    length-either (head t == ascii.lower_t) trues
    (cond (head t == ascii.lower_f) falses (cond (head t == ascii.lower_n) nulls numbers)) n
    (literal_fits ascii.true_text (boolean true) t refl refl)
    (length-either (head t == ascii.lower_f) falses (cond (head t == ascii.lower_n) nulls numbers) n
    (literal_fits ascii.false_text (boolean false) t refl refl)
    (length-either (head t == ascii.lower_n) nulls numbers n (literal_fits ascii.null_text null t refl refl)
    (number_fits t (after_number t) (PassesTo-after_number t))))

-- ---- what each mode of the lexer still owes

abbrev Between : List ℕ → Type 0
Between xs = lexemes_size (lex between xs) ≤ length xs

abbrev InWord : List ℕ → Type 0
InWord xs = lexemes_size (lex in_word xs) + word_length xs ≤ length xs

abbrev InString : List ℕ → Type 0
InString xs = lexemes_size (lex in_string xs) + quoted_size (content plain xs) ≤ length xs

abbrev InEscape : List ℕ → Type 0
InEscape xs = lexemes_size (lex in_escape xs) + quoted_size (content after_backslash xs) ≤ length xs + 1

-- after `\u`
abbrev AfterU : List ℕ → Type 0
AfterU xs = lexemes_size (lex in_string xs) + quoted_size (content after_u xs) ≤ length xs + 2

-- after the first of two units
abbrev AfterHigh : ℕ → List ℕ → Type 0
AfterHigh h xs = lexemes_size (lex in_string xs) + quoted_size (content (after_high h) xs) ≤ length xs + 6

string_fits : (o : Option (List ℕ)) → length (token_text (string_token o)) ≤ 1 + quoted_size o
string_fits None = omega arith
string_fits (Some s) = omega (arith, length-append (escape s) (34 ∷ []))

one_of_six : (a b c d e : Bool) (ls : List Lexeme)
    → lexemes_size (cond a (token begin_object)
    (cond b (token end_object) (cond c (token begin_array) (cond d (token end_array) (cond e comma colon)))) ∷ ls) ≤ 1
    + lexemes_size ls
one_of_six true b c d e ls = omega arith
one_of_six false true c d e ls = omega arith
one_of_six false false true d e ls = omega arith
one_of_six false false false true e ls = omega arith
one_of_six false false false false true ls = omega arith
one_of_six false false false false false ls = omega arith

operator_fits : (x : ℕ) (ls : List Lexeme) → lexemes_size (operator_lexeme x ∷ ls) ≤ 1 + lexemes_size ls
operator_fits x ls = one_of_six (x == ascii.open_brace) (x == ascii.close_brace) (x == ascii.open_bracket)
    (x == ascii.close_bracket) (x == ascii.comma) ls

between_at : (c : Class) (x : ℕ) (xs : List ℕ) → Between xs → InWord xs → InString xs
    → lexemes_size (lex_byte between c x xs (λ n. lex n xs)) ≤ suc (length xs)
between_at quote x xs p w s = omega (arith, string_fits (content plain xs))
between_at backslash x xs p w s = omega arith
between_at operator x xs p w s = omega (arith, operator_fits x (lex between xs))
between_at space x xs p w s = omega arith
between_at other x xs p w s = omega (arith, word-fits (x ∷ xs), at_most_one (in_a_word x) (word_length xs))

between_step : (x : ℕ) (xs : List ℕ) → Between xs → InWord xs → InString xs → Between (x ∷ xs)
unfolding lex
between_step x xs p w s = between_at (class x) x xs p w s

-- q, b, o and s tell whether the byte is a quote, a backslash, an operator or a space
abbrev class_of : Bool → Bool → Bool → Bool → Class
class_of q b o s = cond q quote (cond b backslash (cond o operator (cond s space other)))

in_word_at : (q b o s : Bool) (x : ℕ) (xs : List ℕ) → Between xs → InWord xs
    → lexemes_size (lex_byte in_word (class_of q b o s) x xs (λ n. lex n xs))
    + cond (not (o || s)) (1 + word_length xs) 0 ≤ suc (length xs)
in_word_at true b o s x xs p w = omega (arith, at_most_one (not (o || s)) (word_length xs))
in_word_at false true o s x xs p w = omega (arith, at_most_one (not (o || s)) (word_length xs))
in_word_at false false true s x xs p w = omega (arith, operator_fits x (lex between xs))
in_word_at false false false true x xs p w = omega arith
in_word_at false false false false x xs p w = omega arith

in_word_step : (x : ℕ) (xs : List ℕ) → Between xs → InWord xs → InWord (x ∷ xs)
unfolding lex
in_word_step x xs p w = in_word_at (x == 34) (x == 92) (is_operator x) (is_space x) x xs p w

-- what a string's content is read as, from its next byte on
abbrev content_at : Bool → Bool → Bool → ℕ → List ℕ → Option (List ℕ)
content_at q b l x xs = cond q (Some [])
    (cond b (content after_backslash xs) (cond l None (prepend (x ∷ []) (content plain xs))))

inside_at : (l o s : Bool) (x : ℕ) (xs : List ℕ) → (l ≡ false → length (escape (x ∷ [])) ≡ 1) → InString xs
    → lexemes_size (lex_byte in_string (class_of false false o s) x xs (λ n. lex n xs))
    + quoted_size (content_at false false l x xs) ≤ suc (length xs)
inside_at true true s x xs short h = omega arith
inside_at true false true x xs short h = omega arith
inside_at true false false x xs short h = omega arith
inside_at false true s x xs short h = omega (arith, quoted_size-prepend (x ∷ []) (content plain xs), short refl)
inside_at false false true x xs short h = omega (arith, quoted_size-prepend (x ∷ []) (content plain xs), short refl)
inside_at false false false x xs short h = omega (arith, quoted_size-prepend (x ∷ []) (content plain xs), short refl)

in_string_at : (q b l o s : Bool) (x : ℕ) (xs : List ℕ)
    → (q ≡ false → b ≡ false → l ≡ false → length (escape (x ∷ [])) ≡ 1) → Between xs → InString xs → InEscape xs
    → lexemes_size (lex_byte in_string (class_of q b o s) x xs (λ n. lex n xs)) + quoted_size (content_at q b l x xs)
    ≤ suc (length xs)
in_string_at true b l o s x xs short p h e = omega arith
in_string_at false true l o s x xs short p h e = omega arith
in_string_at false false l o s x xs short p h e = inside_at l o s x xs (short refl refl) h

in_string_step : (x : ℕ) (xs : List ℕ) → Between xs → InString xs → InEscape xs → InString (x ∷ xs)
unfolding lex content
in_string_step x xs p h e = in_string_at (x == 34) (x == 92) (nat_lt x 32) (is_operator x) (is_space x) x xs
    (length-escape_plain x) p h e

quoted_size-cond : (b : Bool) (x y : Option (List ℕ)) (n : ℕ) → quoted_size x ≤ n → quoted_size y ≤ n
    → quoted_size (cond b x y) ≤ n
quoted_size-cond true x y n p q = p
quoted_size-cond false x y n p q = q

in_escape_step : (x : ℕ) (xs : List ℕ) → InString xs → AfterU xs → InEscape (x ∷ xs)
unfolding lex content
in_escape_step x xs h u =
    let left : ℕ = length xs + 2 - lexemes_size (lex in_string xs) in
    let short = option_and_then (λ c. prepend (c ∷ []) (content plain xs)) (short_escape x) in
    omega (
      arith,
      quoted_size-cond (x == 117) (content after_u xs) short left (omega arith)
          (omega (arith, short_escape-fits x (content plain xs))),
    )

-- ---- four hex digits, and what their unit gives

-- where the digits are hexadecimal the lexer passes over them, and else there is no unit
unit_at : (b : Bool) (v : ℕ) (f : ℕ → Option (List ℕ)) (ls ms : List Lexeme) (n : ℕ) → (b ≡ true → ls ≡ ms)
    → lexemes_size ls ≤ n → ((u : ℕ) → lexemes_size ms + quoted_size (f u) ≤ n)
    → lexemes_size ls + quoted_size (option_and_then f (cond b (Some v) None)) ≤ n
unit_at true v f ls ms n same whole each = rw (same refl) (each v)
unit_at false v f ls ms n same whole each = omega arith

unit_fits : (u : ℕ) (xs : List ℕ) → InString xs → AfterHigh u xs
    → lexemes_size (lex in_string xs) + quoted_size
    (cond (is_high_surrogate u) (content (after_high u) xs)
    (cond (is_low_surrogate u) None (prepend (encode_utf8 u) (content plain xs)))) ≤ length xs + 6
unit_fits u xs h high =
    let left : ℕ = length xs + 6 - lexemes_size (lex in_string xs) in
    let single = prepend (encode_utf8 u) (content plain xs) in
    let fits : quoted_size single ≤ left =
    omega (arith, quoted_size-prepend (encode_utf8 u) (content plain xs), length-escape-encode u) in
    omega (
      arith,
      quoted_size-cond (is_high_surrogate u) (content (after_high u) xs)
          (cond (is_low_surrogate u) None single) left (omega arith)
          (quoted_size-cond (is_low_surrogate u) None single left (omega arith) fits),
    )

after_u_step : (a b c d : ℕ) (xs : List ℕ) → lexemes_size (lex in_string (a ∷ b ∷ c ∷ d ∷ xs)) ≤ length xs + 4
    → InString xs → ((h : ℕ) → AfterHigh h xs) → AfterU (a ∷ b ∷ c ∷ d ∷ xs)
unfolding content code_unit
after_u_step a b c d xs whole h high =
    unit_at (is_digit a 16 && is_digit b 16 && is_digit c 16 && is_digit d 16)
    (digit_value a * 4096 + digit_value b * 256 + digit_value c * 16 + digit_value d)
    (λ u. cond (is_high_surrogate u) (content (after_high u) xs)
    (cond (is_low_surrogate u) None (prepend (encode_utf8 u) (content plain xs))))
    (lex in_string (a ∷ b ∷ c ∷ d ∷ xs)) (lex in_string xs) (length (a ∷ b ∷ c ∷ d ∷ xs) + 2) (lex-unit a b c d xs)
    (omega arith) (λ u. omega (arith, unit_fits u xs h (high u)))

lex-escaped : (s u : ℕ) (xs : List ℕ) → (s == 92) ≡ true → lex in_string (s ∷ u ∷ xs) ≡ lex in_string xs
unfolding lex
lex-escaped s u xs e = ap (λ y. lex in_string (y ∷ u ∷ xs)) (eqb-true s 92 e)

low_fits : (l pair : ℕ) (xs : List ℕ) → InString xs
    → lexemes_size (lex in_string xs) + quoted_size
    (cond (is_low_surrogate l) (prepend (encode_utf8 pair) (content plain xs)) None) ≤ length xs + 6
low_fits l pair xs h =
    let left : ℕ = length xs + 6 - lexemes_size (lex in_string xs) in
    let fits : quoted_size (prepend (encode_utf8 pair) (content plain xs)) ≤ left =
    omega (arith, quoted_size-prepend (encode_utf8 pair) (content plain xs), length-escape-encode pair) in
    omega (
      arith,
      quoted_size-cond (is_low_surrogate l) (prepend (encode_utf8 pair) (content plain xs)) None left fits
          (omega arith),
    )

-- where `\u` stands the lexer passes over it, and else there is no second unit
escaped_at : (b : Bool) (o : Option (List ℕ)) (ls ms : List Lexeme) (n : ℕ) → (b ≡ true → ls ≡ ms)
    → lexemes_size ls ≤ n → (lexemes_size ms ≤ n → lexemes_size ms + quoted_size o ≤ n)
    → lexemes_size ls + quoted_size (cond b o None) ≤ n
escaped_at true o ls ms n same whole each = rw (same refl) (each (subst (λ l. lexemes_size l ≤ n) (same refl) whole))
escaped_at false o ls ms n same whole each = omega arith

after_high_step : (h s u a b c d : ℕ) (xs : List ℕ)
    → lexemes_size (lex in_string (s ∷ u ∷ a ∷ b ∷ c ∷ d ∷ xs)) ≤ length xs + 6 → InString xs
    → AfterHigh h (s ∷ u ∷ a ∷ b ∷ c ∷ d ∷ xs)
unfolding content code_unit
after_high_step h s u a b c d xs whole inside =
    let n : ℕ = length (s ∷ u ∷ a ∷ b ∷ c ∷ d ∷ xs) + 6 in
    let f : ℕ → Option (List ℕ) = λ l. cond (is_low_surrogate l)
    (prepend (encode_utf8 (surrogate_pair h l)) (content plain xs)) None in
    escaped_at (s == 92 && u == 117) (option_and_then f (code_unit a b c d))
    (lex in_string (s ∷ u ∷ a ∷ b ∷ c ∷ d ∷ xs)) (lex in_string (a ∷ b ∷ c ∷ d ∷ xs)) n
    (λ e. lex-escaped s u (a ∷ b ∷ c ∷ d ∷ xs) (and_parts (s == 92) (u == 117) e).0) (omega arith)
    (λ rest. unit_at (is_digit a 16 && is_digit b 16 && is_digit c 16 && is_digit d 16)
    (digit_value a * 4096 + digit_value b * 256 + digit_value c * 16 + digit_value d) f
    (lex in_string (a ∷ b ∷ c ∷ d ∷ xs)) (lex in_string xs) n (lex-unit a b c d xs) rest
    (λ l. omega (arith, low_fits l (surrogate_pair h l) xs inside)))

-- ---- the whole text

mutual
  unfolding lex content

  between_fits : (xs : List ℕ) → Between xs
  between_fits [] = omega arith
  between_fits (x ∷ xs) = between_step x xs (between_fits xs) (in_word_fits xs) (in_string_fits xs)

  in_word_fits : (xs : List ℕ) → InWord xs
  in_word_fits [] = omega arith
  in_word_fits (x ∷ xs) = in_word_step x xs (between_fits xs) (in_word_fits xs)

  in_string_fits : (xs : List ℕ) → InString xs
  in_string_fits [] = omega arith
  in_string_fits (x ∷ xs) = in_string_step x xs (between_fits xs) (in_string_fits xs) (in_escape_fits xs)

  in_escape_fits : (xs : List ℕ) → InEscape xs
  in_escape_fits [] = omega arith
  in_escape_fits (x ∷ xs) = let h = in_string_fits xs in in_escape_step x xs h (after_u_fits xs (omega arith))

  after_u_fits : (xs : List ℕ) → lexemes_size (lex in_string xs) ≤ length xs → AfterU xs
  after_u_fits [] g = omega arith
  after_u_fits (a ∷ []) g = omega arith
  after_u_fits (a ∷ b ∷ []) g = omega arith
  after_u_fits (a ∷ b ∷ c ∷ []) g = omega arith
  after_u_fits (a ∷ b ∷ c ∷ d ∷ xs) g =
      let h = in_string_fits xs in after_u_step a b c d xs (omega arith) h (λ u. after_high_fits u xs (omega arith))

  after_high_fits : (h : ℕ) (xs : List ℕ) → lexemes_size (lex in_string xs) ≤ length xs → AfterHigh h xs
  after_high_fits h [] g = omega arith
  after_high_fits h (s ∷ []) g = omega arith
  after_high_fits h (s ∷ u ∷ []) g = omega arith
  after_high_fits h (s ∷ u ∷ a ∷ []) g = omega arith
  after_high_fits h (s ∷ u ∷ a ∷ b ∷ []) g = omega arith
  after_high_fits h (s ∷ u ∷ a ∷ b ∷ c ∷ []) g = omega arith
  after_high_fits h (s ∷ u ∷ a ∷ b ∷ c ∷ d ∷ xs) g = after_high_step h s u a b c d xs (omega arith) (in_string_fits xs)

pub lex-fits : (text : List ℕ) → lexemes_size (lex between text) ≤ length text
lex-fits text = between_fits text
