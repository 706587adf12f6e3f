-- The canonical spelling spells its form, in no more bytes than any other.
use Rattle.std.proofs.Common.{◌≡◌, ℕ, ◌+◌, ◌^◌, ◌<◌, ◌≤◌, true, List, [], ◌∷◌, ◌++◌, map, length, length-append, codes}
use Rattle.std.proofs.Common.{decimal, encode_utf8_all, IsAscii, IsUtf8, chars, refl, sym, ◌∙◌, ap, subst, append_assoc}
use Rattle.std.proofs.Common.{append-nil, arith, lt_of_le_of_lt, lit<}
use Rattle.std.specs.List.{join_with_byte}
use Rattle.std.specs.Str.{all_scalars}
use Rattle.std.proofs.lemmas.Bool.{and_parts, and_from}
use Rattle.std.proofs.lemmas.Str.{chars-encodes, encode_ascii, encodes-append, encodes-chars, encodes-IsAscii}
use Rattle.std.proofs.lemmas.Str.{encodes_same, scalars-chars, IsUtf8-from_ascii}
use Rattle.std.proofs.lemmas.Fmt.{IsAscii-decimal}
use lib.Utf8.{encode}
use Rattle.expr_parser.specs.Forms.{Form, Forms, field, lower, split_words, number, truth, combine, no_forms, form}
use Rattle.expr_parser.specs.Grammar.{SpellsField, SpellsWidth, Around, Call, Pair, Spells, SpellsEach}
use Rattle.expr_parser.specs.Canonical.{canonical, canonical_each, IsShortest}

-- how many bytes the characters have
bytes_of : List ℕ → ℕ
bytes_of cs = length (encode_utf8_all cs)

bytes_of-plain : (cs text : List ℕ) → encode_utf8_all cs ≡ text → bytes_of cs ≡ length text
unfolding bytes_of
bytes_of-plain cs text e = ap length e

bytes_of-append : (a b : List ℕ) → bytes_of (a ++ b) ≡ bytes_of a + bytes_of b
unfolding bytes_of
bytes_of-append a b = ap length (encodes-append a b) ∙ simp length-append refl

bytes_of-cons : (c : ℕ) (cs : List ℕ) → c < 128 → bytes_of (c ∷ cs) ≡ bytes_of cs + 1
unfolding bytes_of
bytes_of-cons c cs low = rw (encode_ascii c low) (omega arith)

-- characters
scalars_parts : (a b : List ℕ) → all_scalars (a ++ b) ≡ true → (all_scalars a ≡ true) × (all_scalars b ≡ true)
scalars_parts [] b h = (refl, h)
scalars_parts (c ∷ a) b h =
    let both = and_parts _ (all_scalars (a ++ b)) h in
    let rest = scalars_parts a b both.1 in
    (and_from _ (all_scalars a) both.0 rest.0, rest.1)

scalars_append : (a b : List ℕ) → all_scalars a ≡ true → all_scalars b ≡ true → all_scalars (a ++ b) ≡ true
scalars_append [] b x y = y
scalars_append (c ∷ a) b x y =
    let both = and_parts _ (all_scalars a) x in and_from _ (all_scalars (a ++ b)) both.0 (scalars_append a b both.1 y)

scalars_ascii : (bs : List ℕ) → IsAscii bs → all_scalars bs ≡ true
scalars_ascii bs ascii =
    let u = IsUtf8-from_ascii bs ascii in
    let same : u.0 ≡ bs = encodes_same u.0 bs (u.1.1 ∙ sym (encodes-IsAscii bs ascii)) in
    subst (λ (x : List ℕ). all_scalars x ≡ true) same u.1.0

-- a text of P with these bytes, no more than the text given
record Compact (P : List ℕ → Type 0) (bytes : List ℕ) (source : List ℕ) : Type 0 where
  text : List ℕ
  holds : P text
  is : encode_utf8_all text ≡ bytes
  scalar : all_scalars text ≡ true
  short : length bytes ≤ bytes_of source

bare : (P : List ℕ → Type 0) (core : List ℕ) → P core → Around P core
bare P core h = record {
  before = [];
  core = core;
  behind = [];
  is = sym (append-nil core);
  white_before = refl;
  white_behind = refl;
  holds = h;
}

around_parts : (P : List ℕ → Type 0) (source : List ℕ) → (a : Around P source) → all_scalars source ≡ true
    → (all_scalars a.core ≡ true) × (bytes_of a.core ≤ bytes_of source)
around_parts P source a h =
    let all : all_scalars (a.before ++ (a.core ++ a.behind)) ≡ true =
    subst (λ (x : List ℕ). all_scalars x ≡ true) a.is h in
    let inner = scalars_parts a.before (a.core ++ a.behind) all in
    let core = scalars_parts a.core a.behind inner.1 in (
      core.0,
      omega (
        arith,
        ap bytes_of a.is,
        bytes_of-append a.before (a.core ++ a.behind),
        bytes_of-append a.core a.behind,
      ),
    )

call_bytes : (w inside inner : List ℕ) → encode_utf8_all w ≡ w → encode_utf8_all inside ≡ inner
    → encode_utf8_all (w ++ 40 ∷ (inside ++ 41 ∷ [])) ≡ (w ++ 40 ∷ []) ++ (inner ++ 41 ∷ [])
unfolding encode
call_bytes w inside inner plain same =
    encodes-append w (40 ∷ (inside ++ 41 ∷ []))
    ∙ (ap (λ (x : List ℕ). x ++ encode_utf8_all (40 ∷ (inside ++ 41 ∷ []))) plain
    ∙ (ap (λ (x : List ℕ). w ++ 40 ∷ x) (encodes-append inside (41 ∷ []) ∙ ap (λ (x : List ℕ). x ++ 41 ∷ []) same)
    ∙ sym (append_assoc w (40 ∷ []) (inner ++ 41 ∷ []))))

call_compact : (w : List ℕ) → encode_utf8_all w ≡ w → all_scalars w ≡ true
    → (P : List ℕ → Type 0) (inner source : List ℕ) → (a : Around (Call w P) source) → all_scalars source ≡ true
    → ((inside : List ℕ) → P inside → all_scalars inside ≡ true → Compact P inner inside)
    → Compact (Around (Call w P)) ((w ++ 40 ∷ []) ++ (inner ++ 41 ∷ [])) source
call_compact w plain scalar P inner source a h inside_compact =
    let whole = around_parts (Call w P) source a h in
    let call = a.holds in
    let in_call : all_scalars (w ++ (call.gap ++ 40 ∷ (call.inside ++ 41 ∷ []))) ≡ true =
    subst (λ (x : List ℕ). all_scalars x ≡ true) call.is whole.0 in
    let behind_word = scalars_parts w (call.gap ++ 40 ∷ (call.inside ++ 41 ∷ [])) in_call in
    let behind_gap = scalars_parts call.gap (40 ∷ (call.inside ++ 41 ∷ [])) behind_word.1 in
    let inside = scalars_parts call.inside (41 ∷ []) behind_gap.1 in
    let c : Compact P inner call.inside = inside_compact call.inside call.holds inside.0 in
    let plain_bytes : bytes_of w ≡ length w = bytes_of-plain _ _ plain in
    record {
      text = w ++ 40 ∷ (c.text ++ 41 ∷ []);
      holds = bare (Call w P) (w ++ 40 ∷ (c.text ++ 41 ∷ []))
          (record { gap = []; inside = c.text; is = refl; white = refl; holds = c.holds });
      is = call_bytes w c.text inner plain c.is;
      scalar = scalars_append w (40 ∷ (c.text ++ 41 ∷ [])) scalar (scalars_append c.text (41 ∷ []) c.scalar refl);
      short = simp length-append
          (omega (
            arith,
            whole.1,
            ap bytes_of call.is,
            bytes_of-append w (call.gap ++ 40 ∷ (call.inside ++ 41 ∷ [])),
            bytes_of-append call.gap (40 ∷ (call.inside ++ 41 ∷ [])),
            bytes_of-cons 40 (call.inside ++ 41 ∷ []) (omega arith),
            bytes_of-append call.inside (41 ∷ []),
            bytes_of-cons 41 [] (omega arith),
            plain_bytes,
            c.short,
          ));
    }

comma_bytes : (a b x y : List ℕ) → encode_utf8_all a ≡ x → encode_utf8_all b ≡ y
    → encode_utf8_all (a ++ 44 ∷ b) ≡ x ++ 44 ∷ y
unfolding encode
comma_bytes a b x y e d =
    encodes-append a (44 ∷ b)
    ∙ (ap (λ (z : List ℕ). z ++ encode_utf8_all (44 ∷ b)) e ∙ ap (λ (z : List ℕ). x ++ 44 ∷ z) d)

pair_compact : (P Q : List ℕ → Type 0) (x y source : List ℕ) → (p : Pair P Q source) → all_scalars source ≡ true
    → ((text : List ℕ) → P text → all_scalars text ≡ true → Compact P x text)
    → ((text : List ℕ) → Q text → all_scalars text ≡ true → Compact Q y text) → Compact (Pair P Q) (x ++ 44 ∷ y) source
pair_compact P Q x y source p h first second =
    let all : all_scalars (p.first ++ 44 ∷ p.second) ≡ true = subst (λ (z : List ℕ). all_scalars z ≡ true) p.is h in
    let both = scalars_parts p.first (44 ∷ p.second) all in
    let a : Compact P x p.first = first p.first p.first_holds both.0 in
    let b : Compact Q y p.second = second p.second p.second_holds both.1 in
    record {
      text = a.text ++ 44 ∷ b.text;
      holds = record { first = a.text; second = b.text; is = refl; first_holds = a.holds; second_holds = b.holds };
      is = comma_bytes a.text b.text x y a.is b.is;
      scalar = scalars_append a.text (44 ∷ b.text) a.scalar b.scalar;
      short = simp length-append
          (omega (
            arith,
            ap bytes_of p.is,
            bytes_of-append p.first (44 ∷ p.second),
            bytes_of-cons 44 p.second (omega arith),
            a.short,
            b.short,
          ));
    }

width_compact : (n : ℕ) (source : List ℕ) → Around (SpellsWidth n) source → all_scalars source ≡ true
    → Compact (Around (SpellsWidth n)) (decimal n) source
width_compact n source a h =
    let whole = around_parts (SpellsWidth n) source a h in
    let small : n < 2 ^ 64 = lt_of_le_of_lt a.holds.greatest (lit< tt) in
    let plain : encode_utf8_all (decimal n) ≡ decimal n = encodes-IsAscii (decimal n) (IsAscii-decimal n small) in
    let plain_bytes : bytes_of (decimal n) ≡ length (decimal n) = bytes_of-plain _ _ plain in
    record {
      text = decimal n;
      holds = bare (SpellsWidth n) (decimal n)
          (record { least = a.holds.least; greatest = a.holds.greatest; is = refl });
      is = plain;
      scalar = scalars_ascii (decimal n) (IsAscii-decimal n small);
      short = omega (arith, whole.1, ap bytes_of a.holds.is, plain_bytes);
    }

encodes_join : (names : List (List ℕ))
    → encode_utf8_all (join_with_byte 46 names) ≡ join_with_byte 46 (map encode_utf8_all names)
unfolding encode
encodes_join [] = refl
encodes_join (p ∷ []) = refl
encodes_join (p ∷ q ∷ names) =
    encodes-append p (46 ∷ join_with_byte 46 (q ∷ names))
    ∙ ap (λ (x : List ℕ). encode_utf8_all p ++ 46 ∷ x) (encodes_join (q ∷ names))

field_compact : (parts : List (List ℕ)) (source : List ℕ) → Around (SpellsField parts) source
    → all_scalars source ≡ true → Compact (Around (SpellsField parts)) (join_with_byte 46 parts) source
field_compact parts source a h =
    let whole = around_parts (SpellsField parts) source a h in
    let bytes : encode_utf8_all a.core ≡ join_with_byte 46 parts = ap encode_utf8_all a.holds.is
    ∙ (encodes_join a.holds.names ∙ ap (join_with_byte 46) (sym a.holds.kept)) in
    let same : bytes_of a.core ≡ length (join_with_byte 46 parts) = bytes_of-plain _ _ bytes in
    record {
      text = a.core;
      holds = bare (SpellsField parts) a.core a.holds;
      is = bytes;
      scalar = whole.0;
      short = omega (arith, whole.1, same);
    }

regroup_number : (a b : List ℕ) → codes "number(" ++ ((a ++ 44 ∷ b) ++ 41 ∷ []) ≡ codes "number("
    ++ (a ++ (codes "," ++ (b ++ codes ")")))
regroup_number a b = simp append_assoc

lower_plain : encode_utf8_all (codes "lower") ≡ codes "lower"
unfolding encode
lower_plain = refl

split_words_plain : encode_utf8_all (codes "split_words") ≡ codes "split_words"
unfolding encode
split_words_plain = refl

number_plain : encode_utf8_all (codes "number") ≡ codes "number"
unfolding encode
number_plain = refl

bool_plain : encode_utf8_all (codes "bool") ≡ codes "bool"
unfolding encode
bool_plain = refl

combine_plain : encode_utf8_all (codes "combine") ≡ codes "combine"
unfolding encode
combine_plain = refl

mutual
  compact : (f : Form) (source : List ℕ) → Spells f source → all_scalars source ≡ true
      → Compact (Spells f) (canonical f) source
  compact (field parts) source a h = field_compact parts source a h
  compact (lower f) source a h = call_compact (codes "lower") lower_plain refl (Spells f)
      (canonical f) source a h (compact f)
  compact (split_words f) source a h =
      call_compact (codes "split_words") split_words_plain refl (Spells f) (canonical f) source a h (compact f)
  compact (truth f) source a h = call_compact (codes "bool") bool_plain refl (Spells f)
      (canonical f) source a h (compact f)
  compact (number f n) source a h =
      subst (λ (x : List ℕ). Compact (Spells (number f n)) x source) (regroup_number (canonical f) (decimal n))
      (call_compact (codes "number") number_plain refl (Pair (Spells f) (Around (SpellsWidth n)))
      (canonical f ++ 44 ∷ decimal n) source a h
      (λ inside p q. pair_compact (Spells f) (Around (SpellsWidth n)) (canonical f) (decimal n) inside p q (compact f)
      (width_compact n)))
  compact (combine fs) source a h =
      call_compact (codes "combine") combine_plain refl (SpellsEach fs) (canonical_each fs) source a h (compact_each fs)

  compact_each : (fs : Forms) (source : List ℕ) → SpellsEach fs source → all_scalars source ≡ true
      → Compact (SpellsEach fs) (canonical_each fs) source
  compact_each no_forms source a h = absurd a
  compact_each (form f no_forms) source a h = compact f source a h
  compact_each (form f (form g fs)) source a h =
      pair_compact (Spells f) (SpellsEach (form g fs)) (canonical f) (canonical_each (form g fs)) source a h
      (compact f) (compact_each (form g fs))

pub canonical-shortest : (f : Form) → IsShortest f (canonical f)
unfolding bytes_of
canonical-shortest f text utf8 spells =
    let c : Compact (Spells f) (canonical f) (chars text) = compact f (chars text) spells (scalars-chars text utf8) in
    let characters : c.text ≡ chars (canonical f) = sym (chars-encodes c.text c.scalar) ∙ ap chars c.is in (
      subst (Spells f) characters c.holds,
      subst (λ (x : List ℕ). length (canonical f) ≤ length x)
          (encodes-chars text utf8) c.short,
    )

pub IsUtf8-canonical : (f : Form) (text : List ℕ) → IsUtf8 text → Spells f (chars text) → IsUtf8 (canonical f)
IsUtf8-canonical f text utf8 spells =
    let c : Compact (Spells f) (canonical f) (chars text) = compact f (chars text) spells (scalars-chars text utf8) in
    (c.text, (c.scalar, c.is))
