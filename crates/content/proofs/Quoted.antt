-- What a string's text stands for is escaped in no more bytes than the text has.
use Rattle.std.proofs.Common.{◌≡◌, ℕ, ◌+◌, ◌/◌, ◌%◌, ◌≤◌, Bool, true, false, cond, ◌&&◌, ◌||◌, ◌==◌, nat_lt, List, []}
use Rattle.std.proofs.Common.{◌∷◌, ◌++◌, length, Option, Some, None, option_and_then, encode_utf8, refl, sym, ap, ◌∙◌}
use Rattle.std.proofs.Common.{subst, arith, append_assoc, length-append}
use Rattle.std.proofs.lemmas.Bool.{and_parts, eqb-true, eqb-false, ltb-false, false≢true}
use lib.Utf8.{encode}
use Rattle.std.specs.Char.{is_digit}
use Rattle.json.specs.Text.{short_escape, prepend}
use Rattle.json.specs.Print.{escape_byte, escape}
use Rattle.json.specs.Word.{is_operator, is_space}
use Rattle.json.specs.Lex.{Lexeme, operator, space, other, Mode, in_string, lex_byte, lex}
use Rattle.json.proofs.Printed.Strings.{escape_byte_plain}

-- what the content of a string takes, with its closing quote; nothing where there is none
abbrev pub quoted_size : Option (List ℕ) → ℕ
quoted_size None = 0
quoted_size (Some s) = length (escape s) + 1

escape-append : (xs ys : List ℕ) → escape (xs ++ ys) ≡ escape xs ++ escape ys
escape-append [] ys = refl
escape-append (x ∷ xs) ys = ap (λ l. escape_byte x ++ l) (escape-append xs ys)
    ∙ sym (append_assoc (escape_byte x) (escape xs) (escape ys))

pub quoted_size-prepend : (bytes : List ℕ) (o : Option (List ℕ))
    → quoted_size (prepend bytes o) ≤ length (escape bytes) + quoted_size o
quoted_size-prepend bytes None = omega arith
quoted_size-prepend bytes (Some s) =
    omega (arith, ap length (escape-append bytes s), length-append (escape bytes) (escape s))

-- ---- one byte

pub length-escape_plain : (x : ℕ) → (x == 34) ≡ false → (x == 92) ≡ false → nat_lt x 32 ≡ false
    → length (escape (x ∷ [])) ≡ 1
length-escape_plain x q b l = ap (λ e. length (e ++ []))
    (escape_byte_plain x (eqb-false x 34 q) (eqb-false x 92 b) (ltb-false x 32 l))

escape_high : (x : ℕ) → 128 ≤ x → escape_byte x ≡ x ∷ []
escape_high x h = escape_byte_plain x (λ e. omega arith) (λ e. omega arith) (omega arith)

length-escape_byte : (x : ℕ) → length (escape_byte x) ≤ 6
unfolding escape_byte
length-escape_byte x = grind arith

abbrev escapes_short : List ℕ → Type 0
escapes_short bytes = length (escape bytes) ≤ 6

escapes_short-cond : (b : Bool) (xs ys : List ℕ) → escapes_short xs → (b ≡ false → escapes_short ys)
    → escapes_short (cond b xs ys)
escapes_short-cond true xs ys p q = p
escapes_short-cond false xs ys p q = q refl

high_two : (x y : ℕ) → 128 ≤ x → 128 ≤ y → escapes_short (x ∷ y ∷ [])
high_two x y h k = rw (escape_high x h, escape_high y k) (omega arith)

high_three : (x y z : ℕ) → 128 ≤ x → 128 ≤ y → 128 ≤ z → escapes_short (x ∷ y ∷ z ∷ [])
high_three x y z h k l = rw (escape_high x h, escape_high y k, escape_high z l) (omega arith)

high_four : (x y z w : ℕ) → 128 ≤ x → 128 ≤ y → 128 ≤ z → 128 ≤ w → escapes_short (x ∷ y ∷ z ∷ w ∷ [])
high_four x y z w h k l m = rw (escape_high x h, escape_high y k, escape_high z l, escape_high w m) (omega arith)

pub length-escape-encode : (c : ℕ) → length (escape (encode_utf8 c)) ≤ 6
unfolding encode
length-escape-encode c =
    let last : ℕ = 128 + c % 64 in
    let middle : ℕ = 128 + c / 64 % 64 in
    let third : ℕ = 128 + c / 4096 % 64 in
    let two : List ℕ = (192 + c / 64) ∷ last ∷ [] in
    let three : List ℕ = (224 + c / 4096) ∷ middle ∷ last ∷ [] in
    let four : List ℕ = (240 + c / 262144) ∷ third ∷ middle ∷ last ∷ [] in
    escapes_short-cond (nat_lt c 128) (c ∷ []) (cond (nat_lt c 2048) two (cond (nat_lt c 65536) three four))
    (omega (arith, length-escape_byte c, length-append (escape_byte c) []))
    (λ d. escapes_short-cond (nat_lt c 2048) two (cond (nat_lt c 65536) three four)
    (high_two (192 + c / 64) last (omega arith) (omega arith))
    (λ e. escapes_short-cond (nat_lt c 65536) three four
    (high_three (224 + c / 4096) middle last (omega arith) (omega arith) (omega arith))
    (λ f. high_four (240 + c / 262144) third middle last (omega arith) (omega arith) (omega arith) (omega arith))))

-- ---- a short escape

short-cond : (b : Bool) (x y : Option ℕ) (o : Option (List ℕ))
    → (b ≡ true → quoted_size (option_and_then (λ c. prepend (c ∷ []) o) x) ≤ 2 + quoted_size o)
    → quoted_size (option_and_then (λ c. prepend (c ∷ []) o) y) ≤ 2 + quoted_size o
    → quoted_size (option_and_then (λ c. prepend (c ∷ []) o) (cond b x y)) ≤ 2 + quoted_size o
short-cond true x y o p q = p refl
short-cond false x y o p q = q

two_bytes : (c : ℕ) (o : Option (List ℕ)) → length (escape_byte c) ≤ 2
    → quoted_size (prepend (c ∷ []) o) ≤ 2 + quoted_size o
two_bytes c o h = omega (arith, quoted_size-prepend (c ∷ []) o, length-append (escape_byte c) [])

one_of_three : (a b c : Bool) (P : Type 0) → (a || b || c) ≡ true → (a ≡ true → P) → (b ≡ true → P) → (c ≡ true → P) → P
one_of_three true b c P e p q r = p refl
one_of_three false true c P e p q r = q refl
one_of_three false false true P e p q r = r refl
one_of_three false false false P e p q r = absurd (cc)

abbrev short_at : ℕ → Type 0
short_at x = length (escape_byte x) ≤ 2

itself : (x : ℕ) → (x == 34 || x == 92 || x == 47) ≡ true → length (escape_byte x) ≤ 2
unfolding escape_byte
itself x e =
    one_of_three (x == 34) (x == 92) (x == 47) (length (escape_byte x) ≤ 2) e
    (λ h. subst short_at (sym (eqb-true x 34 h)) (omega arith))
    (λ h. subst short_at (sym (eqb-true x 92 h)) (omega arith))
    (λ h. subst short_at (sym (eqb-true x 47 h)) (omega arith))

pub short_escape-fits : (x : ℕ) (o : Option (List ℕ))
    → quoted_size (option_and_then (λ c. prepend (c ∷ []) o) (short_escape x)) ≤ 2 + quoted_size o
unfolding short_escape escape_byte
short_escape-fits x o =
    short-cond (x == 34 || x == 92 || x == 47) (Some x) _ o (λ e. two_bytes x o (itself x e))
    (short-cond (x == 98) (Some 8) _ o (λ e. two_bytes 8 o (omega arith))
    (short-cond (x == 102) (Some 12) _ o (λ e. two_bytes 12 o (omega arith))
    (short-cond (x == 110) (Some 10) _ o (λ e. two_bytes 10 o (omega arith))
    (short-cond (x == 114) (Some 13) _ o (λ e. two_bytes 13 o (omega arith))
    (short-cond (x == 116) (Some 9) None o (λ e. two_bytes 9 o (omega arith)) (omega arith))))))

-- ---- the lexer passes over hex digits

stays_inside : (o s : Bool) (x : ℕ) (xs : List ℕ) (k : Mode → List Lexeme)
    → lex_byte in_string (cond o operator (cond s space other)) x xs k ≡ k in_string
stays_inside true s x xs k = refl
stays_inside false true x xs k = refl
stays_inside false false x xs k = refl

pub lex-plain : (x : ℕ) (xs : List ℕ) → (x == 34) ≡ false → (x == 92) ≡ false
    → lex in_string (x ∷ xs) ≡ lex in_string xs
unfolding lex
lex-plain x xs q b = rw (q, b) (stays_inside (is_operator x) (is_space x) x xs (λ m. lex m xs))

differs : (c x : ℕ) (t : Bool) → (t ≡ true → x ≡ c) → is_digit c 16 ≡ false → is_digit x 16 ≡ true → t ≡ false
differs c x false e never h = refl
differs c x true e never h = absurd (false≢true (sym never ∙ ap (λ y. is_digit y 16) (sym (e refl)) ∙ h))

lex-hex : (x : ℕ) (xs : List ℕ) → is_digit x 16 ≡ true → lex in_string (x ∷ xs) ≡ lex in_string xs
lex-hex x xs h = lex-plain x xs (differs 34 x (x == 34) (eqb-true x 34) refl h)
    (differs 92 x (x == 92) (eqb-true x 92) refl h)

pub lex-unit : (a b c d : ℕ) (xs : List ℕ) → (is_digit a 16 && is_digit b 16 && is_digit c 16 && is_digit d 16) ≡ true
    → lex in_string (a ∷ b ∷ c ∷ d ∷ xs) ≡ lex in_string xs
lex-unit a b c d xs h =
    let p = and_parts (is_digit a 16 && is_digit b 16 && is_digit c 16) (is_digit d 16) h in
    let q = and_parts (is_digit a 16 && is_digit b 16) (is_digit c 16) p.0 in
    let r = and_parts (is_digit a 16) (is_digit b 16) q.0 in
    lex-hex a (b ∷ c ∷ d ∷ xs) r.0 ∙ lex-hex b (c ∷ d ∷ xs) r.1 ∙ lex-hex c (d ∷ xs) q.1 ∙ lex-hex d xs p.1
