-- The characters of what is left of a text.
use Rattle.std.proofs.Common.{◌≡◌, ℕ, ◌+◌, ◌-◌, ◌<◌, Bool, true, false, cond, List, [], ◌∷◌, ◌++◌, length}
use Rattle.std.proofs.Common.{length-append, take, encode_utf8, encode_utf8_all, IsUtf8, IsCharBoundary, chars, refl}
use Rattle.std.proofs.Common.{sym, ◌∙◌, ap, subst, arith, take_at}
use Rattle.std.specs.Str.{skip_leading_whitespace, trim_start, all_scalars}
use Rattle.std.specs.Char.{is_whitespace}
use Rattle.std.proofs.lemmas.Bool.{and_parts}
use Rattle.std.proofs.lemmas.Str.{chars-encodes, chars-nil, encodes-append, encodes-chars, scalars-chars}
use Rattle.std.proofs.lemmas.Str.{IsCharBoundary-at_seam, chars_past_char, length-encode, len_utf8_bounds}
use Rattle.std.proofs.lemmas.List.{nil_from_length}
use Rattle.expr_parser.specs.Grammar.{is_white, is_part}
use Rattle.expr_parser.specs.Descent.{lead_of, rest_of}
use Rattle.expr_parser.proofs.Machine.{front_rest}

skip_white : (cs : List ℕ) → skip_leading_whitespace cs ≡ rest_of is_white cs
unfolding is_white
skip_white [] = refl
skip_white (c ∷ cs) = ap (λ (x : List ℕ). cond (is_whitespace c) x (c ∷ cs)) (skip_white cs)

scalars_cond : (b : Bool) (c : ℕ) (cs rest : List ℕ) → all_scalars (c ∷ cs) ≡ true → all_scalars rest ≡ true
    → all_scalars (cond b rest (c ∷ cs)) ≡ true
scalars_cond true c cs rest all h = h
scalars_cond false c cs rest all h = all

scalars_rest : (p : ℕ → Bool) (cs : List ℕ) → all_scalars cs ≡ true → all_scalars (rest_of p cs) ≡ true
scalars_rest p [] h = refl
scalars_rest p (c ∷ cs) h = scalars_cond (p c) c cs (rest_of p cs) h (scalars_rest p cs (and_parts _ _ h).1)

pub chars_rest : (p : ℕ → Bool) (text : List ℕ) → IsUtf8 text
    → chars (encode_utf8_all (rest_of p (chars text))) ≡ rest_of p (chars text)
chars_rest p text utf8 = chars-encodes (rest_of p (chars text)) (scalars_rest p (chars text) (scalars-chars text utf8))

-- `trim_start` passes white space
pub chars_trimmed : (text rest : List ℕ) → IsUtf8 text → rest ≡ trim_start text
    → chars rest ≡ rest_of is_white (chars text)
unfolding trim_start
chars_trimmed text rest utf8 e =
    ap chars (e ∙ ap encode_utf8_all (skip_white (chars text))) ∙ chars_rest is_white text utf8

-- the bytes before the rest
pub front_bytes : (text rest : List ℕ) → IsUtf8 text → IsUtf8 rest → chars rest ≡ rest_of is_part (chars text)
    → text ≡ encode_utf8_all (lead_of is_part (chars text)) ++ rest
front_bytes text rest utf8 rest_utf8 e =
    sym (encodes-chars text utf8)
    ∙ (ap encode_utf8_all (sym (front_rest is_part (chars text)))
    ∙ (encodes-append (lead_of is_part (chars text)) (rest_of is_part (chars text))
    ∙ ap (λ (x : List ℕ). encode_utf8_all (lead_of is_part (chars text)) ++ x)
    (ap encode_utf8_all (sym e) ∙ encodes-chars rest rest_utf8)))

pub front_length : (text front rest : List ℕ) → text ≡ front ++ rest → length front + length rest ≡ length text
front_length text front rest e = sym (simp length-append at (ap length e))

pub cut_at_rest : (text front rest : List ℕ) → text ≡ front ++ rest → IsUtf8 rest
    → IsCharBoundary text (length text - length rest)
cut_at_rest text front rest e utf8 =
    let n : length front ≡ length text - length rest = omega (arith, front_length text front rest e) in
    subst (IsCharBoundary text) n (IsCharBoundary-at_seam text front rest e utf8)

pub take_front : (text front rest : List ℕ) → text ≡ front ++ rest → take (length text - length rest) text ≡ front
take_front text front rest e =
    let n : length front ≡ length text - length rest = omega (arith, front_length text front rest e) in
    subst (λ (x : List ℕ). take (length text - length rest) x ≡ front) (sym e)
    (take_at front rest (length text - length rest) n)

-- the first character and the rest
pub first_char : (text rest : List ℕ) (c : ℕ) → IsUtf8 text → text ≡ encode_utf8 c ++ rest
    → (chars text ≡ c ∷ chars rest) × (length rest < length text)
first_char text rest c utf8 e = (
  chars_past_char text rest c utf8 e,
  omega (arith, simp length-append at (ap length e), length-encode c, (len_utf8_bounds c).0),
)

pub no_char : (text : List ℕ) → length text ≡ 0 → chars text ≡ []
no_char text e = ap chars (nil_from_length text e) ∙ chars-nil

pub nothing_left : (cs : List ℕ) → cs ≡ [] → rest_of is_part cs ≡ cs
nothing_left cs e = ap (rest_of is_part) e ∙ sym e
