-- The words of a text come off its front one by one.
use Rattle.std.proofs.Common.{◌≡◌, ℕ, ◌<◌, Bool, true, not, cond, eqb, List, [], ◌∷◌, ◌++◌, length, map, encode_utf8}
use Rattle.std.proofs.Common.{encode_utf8_all, chars, IsUtf8, refl, sym, ap, subst, ◌∙◌, arith, append-nil}
use Rattle.std.proofs.Common.{append_assoc, Bor}
use Rattle.std.proofs.lemmas.Bool.{and_parts, ne_eqb, not-false}
use Rattle.std.proofs.lemmas.List.{nil_from_length, map-append}
use Rattle.expr_eval.specs.inner.Lent.{lent}
use Rattle.std.proofs.lemmas.Str.{chars-encodes, encodes_same, cons_from_encodes, length-le-encodes}
use Rattle.std.specs.Char.{is_whitespace, is_not_whitespace}
use Rattle.std.specs.List.{filter, slice_split, onto_first}
use Rattle.std.specs.Str.{NonePass, NoCharPasses, EmptyOrStartsWithPassing, all_scalars}
use Rattle.expr_eval.specs.Words.{words_of, words_in}

abbrev some_in : List ℕ → Bool
some_in piece = not (eqb (length piece) 0)

-- white space in front makes no word
past_white : (c : ℕ) (cs : List ℕ) → is_whitespace c ≡ true → words_of (c ∷ cs) ≡ words_of cs
past_white c cs white =
    ap (λ (b : Bool). filter some_in
    (cond b ([] ∷ slice_split is_whitespace cs) (onto_first c (slice_split is_whitespace cs)))) white

past_gap : (gap cs : List ℕ) → NonePass is_not_whitespace gap → words_of (gap ++ cs) ≡ words_of cs
past_gap [] cs none = refl
past_gap (c ∷ gap) cs none = past_white c (gap ++ cs) (not-false (is_whitespace c) none.0) ∙ past_gap gap cs none.1

-- a word goes up to white space
split_word : (word : List ℕ) (c : ℕ) (cs : List ℕ) → NonePass is_whitespace word → is_whitespace c ≡ true
    → slice_split is_whitespace (word ++ c ∷ cs) ≡ word ∷ slice_split is_whitespace cs
split_word [] c cs none white =
    ap (λ (b : Bool). cond b ([] ∷ slice_split is_whitespace cs) (onto_first c (slice_split is_whitespace cs))) white
split_word (d ∷ word) c cs none white =
    ap (λ (b : Bool). cond b ([] ∷ slice_split is_whitespace (word ++ c ∷ cs))
    (onto_first d (slice_split is_whitespace (word ++ c ∷ cs)))) none.0
    ∙ ap (onto_first d) (split_word word c cs none.1 white)

-- or up to the end
split_last : (word : List ℕ) → NonePass is_whitespace word → slice_split is_whitespace word ≡ word ∷ []
split_last [] none = refl
split_last (d ∷ word) none =
    ap (λ (b : Bool). cond b ([] ∷ slice_split is_whitespace word) (onto_first d (slice_split is_whitespace word)))
    none.0
    ∙ ap (onto_first d) (split_last word none.1)

kept : (word : List ℕ) (pieces : List (List ℕ)) → 0 < length word
    → filter some_in (word ∷ pieces) ≡ word ∷ filter some_in pieces
kept word pieces some =
    ap (λ (b : Bool). cond (not b) (word ∷ filter some_in pieces) (filter some_in pieces))
    (ne_eqb (length word) 0 (λ none. omega arith))

-- the characters are none, or begin with white space
pub data Ends : List ℕ → Type 0 where
  at_end : Ends []
  at_white : (c : ℕ) (cs : List ℕ) → is_whitespace c ≡ true → Ends (c ∷ cs)

one_word : (word cs : List ℕ) → NonePass is_whitespace word → 0 < length word → Ends cs
    → words_of (word ++ cs) ≡ word ∷ words_of cs
one_word word cs none some ends = elim ends as (λ (l : List ℕ) _. words_of (word ++ l) ≡ word ∷ words_of l) [
  | at_end ↦ ap words_of (append-nil word) ∙ (ap (filter some_in) (split_last word none) ∙ kept word [] some)
  | at_white c rest white ↦
      ap (filter some_in) (split_word word c rest none white) ∙ (kept word (slice_split is_whitespace rest) some
      ∙ ap (λ (l : List (List ℕ)). word ∷ l) (sym (past_white c rest white)))
]

-- characters are read one after another
pub record Behind (cs front bytes : List ℕ) : Type 0 where
  pub rest : List ℕ
  pub is : cs ≡ front ++ rest
  pub spelled : encode_utf8_all rest ≡ bytes

behind : (front cs bytes : List ℕ) → encode_utf8_all cs ≡ encode_utf8_all front ++ bytes → Behind cs front bytes
behind [] cs bytes e = record { rest = cs; is = refl; spelled = e }
behind (c ∷ front) cs bytes e =
    let first = cons_from_encodes cs (encode_utf8_all front ++ bytes) c
    (e ∙ append_assoc (encode_utf8 c) (encode_utf8_all front) bytes) in
    let next : Behind first.0 front bytes = behind front first.0 bytes first.2 in
    record { rest = next.rest; is = first.1 ∙ ap (λ (l : List ℕ). c ∷ l) next.is; spelled = next.spelled }

scalars_behind : (front rest : List ℕ) → all_scalars (front ++ rest) ≡ true → all_scalars rest ≡ true
scalars_behind [] rest h = h
scalars_behind (c ∷ front) rest h = scalars_behind front rest (and_parts _ _ h).1

ends_first : (cs : List ℕ) (c : ℕ) (more : List ℕ) → is_whitespace c ≡ true
    → encode_utf8_all cs ≡ encode_utf8 c ++ more → Ends cs
ends_first cs c more white e =
    let first = cons_from_encodes cs more c e in
    subst Ends (sym first.1) (at_white c first.0 white)

ends_from : (cs bytes more : List ℕ) → encode_utf8_all cs ≡ bytes
    → EmptyOrStartsWithPassing is_whitespace bytes more → Ends cs
ends_from cs [] more e starts =
    let none : length cs ≡ 0 = omega (arith, length-le-encodes cs, ap length e) in
    subst Ends (sym (nil_from_length cs none)) at_end
ends_from cs (b ∷ bytes) more e starts =
    let first = starts (omega arith) in
    ends_first cs first.0 more first.1 (e ∙ first.2)

some_character : (word bytes : List ℕ) → encode_utf8_all word ≡ bytes → 0 < length bytes → 0 < length word
some_character [] bytes e some = absurd (omega (arith, ap length e))
some_character (c ∷ word) bytes e some = omega arith

-- what is left behind the first word
pub record TakesWord (text word rest : List ℕ) : Type 0 where
  pub utf8 : IsUtf8 rest
  pub words : words_in text ≡ word ∷ words_in rest

pub takes_word : (text word rest more gap : List ℕ) → IsUtf8 text → text ≡ gap ++ (word ++ rest) → 0 < length word
    → NoCharPasses is_not_whitespace gap → NoCharPasses is_whitespace word
    → EmptyOrStartsWithPassing is_whitespace rest more
    → TakesWord text word rest
takes_word text word rest more gap utf8 e some white none starts =
    let cs = utf8.0 in
    let g = white.0 in
    let w = none.0 in
    let spelled : encode_utf8_all cs ≡ encode_utf8_all g ++ (word ++ rest) = utf8.1.1
    ∙ (e ∙ ap (λ (l : List ℕ). l ++ (word ++ rest)) (sym white.1)) in
    let b : Behind cs g (word ++ rest) = behind g cs (word ++ rest) spelled in
    let d : Behind b.rest w rest = behind w b.rest rest (b.spelled ∙ ap (λ (l : List ℕ). l ++ rest) (sym none.1)) in
    let all : all_scalars (g ++ (w ++ d.rest)) ≡ true =
    subst (λ (l : List ℕ). all_scalars l ≡ true) (b.is ∙ ap (λ (l : List ℕ). g ++ l) d.is) utf8.1.0 in
    let left : all_scalars d.rest ≡ true = scalars_behind w d.rest (scalars_behind g (w ++ d.rest) all) in
    let here : chars text ≡ cs = ap chars (sym utf8.1.1) ∙ chars-encodes cs utf8.1.0 in
    let there : chars rest ≡ d.rest = ap chars (sym d.spelled) ∙ chars-encodes d.rest left in
    let length_w : 0 < length w = some_character w word none.1 some in
    let found : words_of cs ≡ w ∷ words_of d.rest =
    ap words_of (b.is ∙ ap (λ (l : List ℕ). g ++ l) d.is) ∙ (past_gap g (w ++ d.rest) white.2
    ∙ one_word w d.rest none.2 length_w (ends_from d.rest rest more d.spelled starts)) in
    record {
      utf8 = (d.rest, (left, d.spelled));
      words = ap (λ (l : List ℕ). map encode_utf8_all (words_of l)) here ∙ (ap (map encode_utf8_all) found
          ∙ (ap (λ (l : List ℕ). l ∷ map encode_utf8_all (words_of d.rest)) none.1
          ∙ ap (λ (l : List ℕ). word ∷ map encode_utf8_all (words_of l)) (sym there)));
    }

-- a text of white space has none
pub no_word : (text : List ℕ) → IsUtf8 text → NoCharPasses is_not_whitespace text → words_in text ≡ []
no_word text utf8 white =
    let cs = utf8.0 in
    let same : cs ≡ white.0 = encodes_same cs white.0 (utf8.1.1 ∙ sym white.1) in
    let here : chars text ≡ cs = ap chars (sym utf8.1.1) ∙ chars-encodes cs utf8.1.0 in
    ap (λ (l : List ℕ). map encode_utf8_all (words_of l)) (here ∙ (same ∙ sym (append-nil white.0)))
    ∙ ap (map encode_utf8_all) (past_gap white.0 [] white.2)

-- the words so far, and one more
pub one_word_more : (words : List (Bor (List ℕ))) (word : Bor (List ℕ)) (left rest all : List (List ℕ))
    → lent words ++ left ≡ all → left ≡ word.now ∷ rest
    → lent (words ++ word ∷ []) ++ rest ≡ all
one_word_more words word left rest all before is =
    ap (λ (l : List (List ℕ)). l ++ rest) (map-append (λ (w : Bor (List ℕ)). w.now) words (word ∷ []))
    ∙ (append_assoc (lent words) (word.now ∷ []) rest ∙ (ap (λ (l : List (List ℕ)). lent words ++ l) (sym is) ∙ before))
