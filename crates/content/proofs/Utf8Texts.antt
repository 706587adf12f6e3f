-- The texts of a value that is read of UTF-8, names among them, are UTF-8.
use Rattle.std.proofs.Common.{◌≡◌, ℕ, suc, ◌+◌, ◌<◌, Bool, true, false, cond, ◌&&◌, ◌||◌, ◌==◌, nat_lt, nat_le, List}
use Rattle.std.proofs.Common.{[], ◌∷◌, ◌++◌, length, take, drop, get_or, inl, inr, Option, Some, None, option_map}
use Rattle.std.proofs.Common.{option_and_then, Ordering, Less, Equal, Greater, nat_cmp, IsUtf8, encode_utf8, refl, sym}
use Rattle.std.proofs.Common.{ap, ◌∙◌, subst, arith, append_assoc, append-nil}
use Rattle.std.proofs.lemmas.Bool.{and_parts, or_cases, eqb-true, ltb-true, leb-true}
use Rattle.std.proofs.lemmas.Str.{encode_ascii, IsUtf8-append, IsUtf8-take, IsUtf8-drop, IsUtf8-encode}
use Rattle.std.proofs.lemmas.Str.{IsCharBoundary-before_ascii, IsCharBoundary-after_ascii}
use Rattle.std.proofs.Math.Utf8.{low_scalar}
use Rattle.std.specs.Char.{IsScalar, is_digit}
use Rattle.std.specs.List.{starts_with}
use Rattle.std.specs.Prelude.{⊤, nat_eq}
use Rattle.std.specs.Cmp.Lexicographic.{slice_cmp}
use Rattle.std.specs.Ordering.{match_ordering}
use Rattle.json.proofs.Unique.Spelling.{value-json_tokens_back}
use Rattle.json.specs.Ascii as ascii
use Rattle.json.specs.Json as json
use Rattle.json.specs.Lex.{Lexeme, token, comma, colon, Class, quote, backslash, operator, space, other, class}
use Rattle.json.specs.Lex.{operator_lexeme, string_token, Mode, between, in_word, in_string, in_escape, lex_byte, lex}
use Rattle.json.specs.Lex.{Place, fresh, after_value, after_comma, after_key, begins_colon, may_begin, may_close}
use Rattle.json.specs.Lex.{if_allowed, place_token, punctuate, tokens}
use Rattle.json.specs.Text.{content, plain, after_backslash, after_u, after_high, code_unit, short_escape, prepend}
use Rattle.json.specs.Text.{is_high_surrogate, is_low_surrogate, surrogate_pair}
use Rattle.json.specs.Token.{Token}
use Rattle.json.specs.Tree.{json_tokens, items_tokens, members_tokens}
use Rattle.json.specs.Word.{is_operator, is_space, after_number, ends_word, literal, number_before, head, word}
use Rattle.serde_json.specs.Data.{Num, Data, null, boolean, number, string, array, object, Items, no_items, item}
use Rattle.serde_json.specs.Data.{Members, no_members, member, put}
use Rattle.serde_json.specs.Read.{number_of, of_json, of_items, of_members, max_depth, read}
use Rattle.content.proofs.Ordered.{Each, Each-map, Each-and_then}
use Rattle.content.proofs.Shorter.{alone}

abbrev mutual
  pub HasTexts : Data → Type 0
  HasTexts null = ⊤
  HasTexts (boolean b) = ⊤
  HasTexts (number n) = ⊤
  HasTexts (string s) = IsUtf8 s
  HasTexts (array ds) = ItemsHaveTexts ds
  HasTexts (object ms) = MembersHaveTexts ms

  pub ItemsHaveTexts : Items → Type 0
  ItemsHaveTexts no_items = ⊤
  ItemsHaveTexts (item d ds) = HasTexts d × ItemsHaveTexts ds

  pub MembersHaveTexts : Members → Type 0
  MembersHaveTexts no_members = ⊤
  MembersHaveTexts (member name d ms) = IsUtf8 name × HasTexts d × MembersHaveTexts ms

-- ---- what stands before and behind an ASCII byte

byte_at : (pre xs : List ℕ) (x : ℕ) → get_or (pre ++ x ∷ xs) (length pre) 0 ≡ x
byte_at [] xs x = refl
byte_at (p ∷ pre) xs x = byte_at pre xs x

within : (pre xs : List ℕ) (x : ℕ) → length pre < length (pre ++ x ∷ xs)
within [] xs x = omega arith
within (p ∷ pre) xs x = omega (arith, within pre xs x)

taken : (pre ys : List ℕ) → take (length pre) (pre ++ ys) ≡ pre
taken [] ys = refl
taken (p ∷ pre) ys = ap (λ (l : List ℕ). p ∷ l) (taken pre ys)

dropped : (pre xs : List ℕ) (x : ℕ) → drop (suc (length pre)) (pre ++ x ∷ xs) ≡ xs
dropped [] xs x = refl
dropped (p ∷ pre) xs x = dropped pre xs x

before_ascii : (pre xs : List ℕ) (x : ℕ) → x < 128 → IsUtf8 (pre ++ x ∷ xs) → IsUtf8 pre
before_ascii pre xs x small u =
    let bs = pre ++ x ∷ xs in
    subst IsUtf8 (taken pre (x ∷ xs))
    (IsUtf8-take bs (length pre) u
    (IsCharBoundary-before_ascii bs (length pre) (within pre xs x) (omega (arith, byte_at pre xs x))))

behind_ascii : (pre xs : List ℕ) (x : ℕ) → x < 128 → IsUtf8 (pre ++ x ∷ xs) → IsUtf8 xs
behind_ascii pre xs x small u =
    let bs = pre ++ x ∷ xs in
    let next : length pre + 1 ≡ suc (length pre) = omega arith in
    subst IsUtf8 (ap (λ n. drop n bs) next ∙ dropped pre xs x)
    (IsUtf8-drop bs (length pre + 1) u
    (IsCharBoundary-after_ascii bs (length pre) u (within pre xs x) (omega (arith, byte_at pre xs x))))

-- ---- the content of a string

some_cases : {A : Type 0} (b : Bool) (o p : Option A) (s : A) {R : Type 0} → cond b o p ≡ Some s
    → (b ≡ true → o ≡ Some s → R) → (b ≡ false → p ≡ Some s → R) → R
some_cases true o p s e f g = f refl e
some_cases false o p s e f g = g refl e

prepended : (bytes : List ℕ) (o : Option (List ℕ)) (s : List ℕ) → prepend bytes o ≡ Some s
    → (r : List ℕ) × (o ≡ Some r) × (bytes ++ r ≡ s)
prepended bytes None s e = absurd (cc)
prepended bytes (Some r) s e = (r, refl, cc)

then_some : {A B : Type 0} (f : A → Option B) (o : Option A) (b : B) → option_and_then f o ≡ Some b
    → (a : A) × (o ≡ Some a) × (f a ≡ Some b)
then_some f None b e = absurd (cc)
then_some f (Some a) b e = (a, refl, e)

inner : {A : Type 0} (a b : A) → Some a ≡ Some b → a ≡ b
inner a b e = cc

abbrev AreAscii : ℕ → ℕ → Type 0
AreAscii x c = (x < 128) × (c < 128)

by_itself : (x c : ℕ) → (x == 34 || x == 92 || x == 47) ≡ true → Some x ≡ Some c → AreAscii x c
by_itself x c is e =
    let small : x < 128 = elim (or_cases (x == 34 || x == 92) (x == 47) is) [
      | inl first ↦ elim (or_cases (x == 34) (x == 92) first)
          [ inl q ↦ omega (arith, eqb-true x 34 q) | inr b ↦ omega (arith, eqb-true x 92 b) ]
      | inr slash ↦ omega (arith, eqb-true x 47 slash)
    ] in
    (small, subst (λ n. n < 128) (inner x c e) small)

by_letter : (x y n c : ℕ) → y < 128 → n < 128 → (x == y) ≡ true → Some n ≡ Some c → AreAscii x c
by_letter x y n c small_y small_n is e =
    (subst (λ m. m < 128) (sym (eqb-true x y is)) small_y, subst (λ m. m < 128) (inner n c e) small_n)

escape_ascii : (x c : ℕ) → short_escape x ≡ Some c → AreAscii x c
unfolding short_escape
escape_ascii x c e =
    some_cases (x == 34 || x == 92 || x == 47) (Some x) _ c e (by_itself x c) (λ _ e1.
    some_cases (x == 98) (Some 8) _ c e1 (by_letter x 98 8 c (omega arith) (omega arith)) (λ _ e2.
    some_cases (x == 102) (Some 12) _ c e2 (by_letter x 102 12 c (omega arith) (omega arith)) (λ _ e3.
    some_cases (x == 110) (Some 10) _ c e3 (by_letter x 110 10 c (omega arith) (omega arith)) (λ _ e4.
    some_cases (x == 114) (Some 13) _ c e4 (by_letter x 114 13 c (omega arith) (omega arith)) (λ _ e5.
    some_cases (x == 116) (Some 9) None c e5 (by_letter x 116 9 c (omega arith) (omega arith))
    (λ _ e6. absurd (cc)))))))

hex_ascii : (d : ℕ) → is_digit d 16 ≡ true → d < 128
hex_ascii d e = grind arith

unit_fits : (a b c d u : ℕ) → code_unit a b c d ≡ Some u → (d < 128) × (u < 65536)
unfolding code_unit
unit_fits a b c d u e =
    some_cases (is_digit a 16 && is_digit b 16 && is_digit c 16 && is_digit d 16) _ None u e
    (λ are is.
    let p = and_parts (is_digit a 16 && is_digit b 16 && is_digit c 16) (is_digit d 16) are in
    let q = and_parts (is_digit a 16 && is_digit b 16) (is_digit c 16) p.0 in
    let r = and_parts (is_digit a 16) (is_digit b 16) q.0 in (
      hex_ascii d p.1,
      omega
          (arith, inner _ u is, ltb-true _ 16 r.0, ltb-true _ 16 r.1, ltb-true _ 16 q.1, ltb-true _ 16 p.1),
    ))
    (λ _ is. absurd (cc))

pair_scalar : (h l : ℕ) → is_high_surrogate h ≡ true → is_low_surrogate l ≡ true → IsScalar (surrogate_pair h l)
pair_scalar h l high low =
    let p = and_parts (nat_le 0xd800 h) (nat_lt h 0xdc00) high in
    let q = and_parts (nat_le 0xdc00 l) (nat_lt l 0xe000) low in
    grind (arith, leb-true 0xd800 h p.0, ltb-true h 0xdc00 p.1, leb-true 0xdc00 l q.0, ltb-true l 0xe000 q.1)

unit_scalar : (u : ℕ) → u < 65536 → is_high_surrogate u ≡ false → is_low_surrogate u ≡ false → IsScalar u
unit_scalar u small high low = grind arith

ascii_first : (c : ℕ) (r : List ℕ) → c < 128 → IsUtf8 r → IsUtf8 (c ∷ r)
ascii_first c r small u =
    IsUtf8-append (c ∷ []) r (subst IsUtf8 (encode_ascii c small) (IsUtf8-encode c (low_scalar c (omega arith)))) u

at_plain : (x : ℕ) (xs : List ℕ) → content plain (x ∷ xs)
    ≡ cond (x == 34) (Some [])
    (cond (x == 92) (content after_backslash xs) (cond (nat_lt x 32) None (prepend (x ∷ []) (content plain xs))))
unfolding content
at_plain x xs = refl

at_escape : (x : ℕ) (xs : List ℕ) → content after_backslash (x ∷ xs)
    ≡ cond (x == 117) (content after_u xs) (option_and_then (λ c. prepend (c ∷ []) (content plain xs)) (short_escape x))
unfolding content
at_escape x xs = refl

abbrev unit_then : List ℕ → ℕ → Option (List ℕ)
unit_then xs u = cond (is_high_surrogate u) (content (after_high u) xs)
    (cond (is_low_surrogate u) None (prepend (encode_utf8 u) (content plain xs)))

at_unit : (a b c d : ℕ) (xs : List ℕ)
    → content after_u (a ∷ b ∷ c ∷ d ∷ xs) ≡ option_and_then (unit_then xs) (code_unit a b c d)
unfolding content
at_unit a b c d xs = refl

abbrev low_then : ℕ → List ℕ → ℕ → Option (List ℕ)
low_then h xs l = cond (is_low_surrogate l) (prepend (encode_utf8 (surrogate_pair h l)) (content plain xs)) None

at_low : (h s u a b c d : ℕ) (xs : List ℕ) → content (after_high h) (s ∷ u ∷ a ∷ b ∷ c ∷ d ∷ xs)
    ≡ cond ((s == 92) && (u == 117)) (option_and_then (low_then h xs) (code_unit a b c d)) None
unfolding content
at_low h s u a b c d xs = refl

-- what follows an encoded character
encoded_then : (c : ℕ) (o : Option (List ℕ)) (s : List ℕ) → IsScalar c → ((r : List ℕ) → o ≡ Some r → IsUtf8 r)
    → prepend (encode_utf8 c) o ≡ Some s → IsUtf8 s
encoded_then c o s scalar rest e =
    let p = prepended (encode_utf8 c) o s e in
    subst IsUtf8 p.2 (IsUtf8-append (encode_utf8 c) p.0 (IsUtf8-encode c scalar) (rest p.0 p.1))

-- where a text ends within a string, there is no content
no_option : {A : Type 0} (a : A) → None ≡ Some a → ⊥
no_option a e = cc

no_text : (s : List ℕ) → content plain [] ≡ Some s → ⊥
unfolding content
no_text s e = no_option s e

no_escape : (s : List ℕ) → content after_backslash [] ≡ Some s → ⊥
unfolding content
no_escape s e = no_option s e

short_unit : (xs s : List ℕ) → length xs < 4 → content after_u xs ≡ Some s → ⊥
unfolding content
short_unit [] s short e = no_option s e
short_unit (a ∷ []) s short e = no_option s e
short_unit (a ∷ b ∷ []) s short e = no_option s e
short_unit (a ∷ b ∷ c ∷ []) s short e = no_option s e
short_unit (a ∷ b ∷ c ∷ d ∷ xs) s short e = absurd (omega arith)

short_low : (h : ℕ) (xs s : List ℕ) → length xs < 6 → content (after_high h) xs ≡ Some s → ⊥
unfolding content
short_low h [] s short e = no_option s e
short_low h (q ∷ []) s short e = no_option s e
short_low h (q ∷ v ∷ []) s short e = no_option s e
short_low h (q ∷ v ∷ a ∷ []) s short e = no_option s e
short_low h (q ∷ v ∷ a ∷ b ∷ []) s short e = no_option s e
short_low h (q ∷ v ∷ a ∷ b ∷ c ∷ []) s short e = no_option s e
short_low h (q ∷ v ∷ a ∷ b ∷ c ∷ d ∷ xs) s short e = absurd (omega arith)

mutual
  -- with what was read before it
  plain_utf8 : (xs pre s : List ℕ) → IsUtf8 (pre ++ xs) → content plain xs ≡ Some s → IsUtf8 (pre ++ s)
  plain_utf8 [] pre s u e = absurd (no_text s e)
  plain_utf8 (x ∷ xs) pre s u e =
      some_cases (x == 34) (Some []) _ s (sym (at_plain x xs) ∙ e)
      (λ q e1. subst (λ r. IsUtf8 (pre ++ r)) (inner [] s e1)
      (subst IsUtf8 (sym (append-nil pre)) (before_ascii pre xs x (omega (arith, eqb-true x 34 q)) u)))
      (λ _ e1. some_cases (x == 92) (content after_backslash xs) _ s e1
      (λ b e2.
      let small : x < 128 = omega (arith, eqb-true x 92 b) in
      IsUtf8-append pre s (before_ascii pre xs x small u) (escape_utf8 xs s (behind_ascii pre xs x small u) e2))
      (λ _ e2. some_cases (nat_lt x 32) None _ s e2 (λ _ e3. absurd (no_option s e3)) (λ _ e3.
      let p = prepended (x ∷ []) (content plain xs) s e3 in
      subst (λ r. IsUtf8 (pre ++ r)) p.2
      (subst IsUtf8 (append_assoc pre (x ∷ []) p.0)
      (plain_utf8 xs (pre ++ x ∷ []) p.0 (subst IsUtf8 (sym (append_assoc pre (x ∷ []) xs)) u) p.1)))))

  escape_utf8 : (xs s : List ℕ) → IsUtf8 xs → content after_backslash xs ≡ Some s → IsUtf8 s
  escape_utf8 [] s u e = absurd (no_escape s e)
  escape_utf8 (x ∷ xs) s u e =
      some_cases (x == 117) (content after_u xs) _ s (sym (at_escape x xs) ∙ e)
      (λ is e1. unit_utf8 xs s (behind_ascii [] xs x (omega (arith, eqb-true x 117 is)) u) e1)
      (λ _ e1.
      let c = then_some (λ c. prepend (c ∷ []) (content plain xs)) (short_escape x) s e1 in
      let small = escape_ascii x c.0 c.1 in
      let p = prepended (c.0 ∷ []) (content plain xs) s c.2 in
      subst IsUtf8 p.2 (ascii_first c.0 p.0 small.1 (plain_utf8 xs [] p.0 (behind_ascii [] xs x small.0 u) p.1)))

  unit_utf8 : (xs s : List ℕ) → IsUtf8 xs → content after_u xs ≡ Some s → IsUtf8 s
  unit_utf8 [] s u e = absurd (short_unit [] s (omega arith) e)
  unit_utf8 (a ∷ []) s u e = absurd (short_unit (a ∷ []) s (omega arith) e)
  unit_utf8 (a ∷ b ∷ []) s u e = absurd (short_unit (a ∷ b ∷ []) s (omega arith) e)
  unit_utf8 (a ∷ b ∷ c ∷ []) s u e = absurd (short_unit (a ∷ b ∷ c ∷ []) s (omega arith) e)
  unit_utf8 (a ∷ b ∷ c ∷ d ∷ xs) s u e =
      let n = then_some (unit_then xs) (code_unit a b c d) s (sym (at_unit a b c d xs) ∙ e) in
      let fits = unit_fits a b c d n.0 n.1 in
      let behind : IsUtf8 xs = behind_ascii (a ∷ b ∷ c ∷ []) xs d fits.0 u in
      some_cases (is_high_surrogate n.0) (content (after_high n.0) xs) _ s n.2
      (λ high e1. low_utf8 n.0 xs s high behind e1)
      (λ not_high e1. some_cases (is_low_surrogate n.0) None _ s e1 (λ _ e2. absurd (no_option s e2))
      (λ not_low e2. encoded_then n.0 (content plain xs) s (unit_scalar n.0 fits.1 not_high not_low)
      (λ r. plain_utf8 xs [] r behind) e2))

  low_utf8 : (h : ℕ) (xs s : List ℕ) → is_high_surrogate h ≡ true → IsUtf8 xs → content (after_high h) xs ≡ Some s
      → IsUtf8 s
  low_utf8 h [] s high u e = absurd (short_low h [] s (omega arith) e)
  low_utf8 h (q ∷ []) s high u e = absurd (short_low h (q ∷ []) s (omega arith) e)
  low_utf8 h (q ∷ v ∷ []) s high u e = absurd (short_low h (q ∷ v ∷ []) s (omega arith) e)
  low_utf8 h (q ∷ v ∷ a ∷ []) s high u e = absurd (short_low h (q ∷ v ∷ a ∷ []) s (omega arith) e)
  low_utf8 h (q ∷ v ∷ a ∷ b ∷ []) s high u e = absurd (short_low h (q ∷ v ∷ a ∷ b ∷ []) s (omega arith) e)
  low_utf8 h (q ∷ v ∷ a ∷ b ∷ c ∷ []) s high u e = absurd (short_low h (q ∷ v ∷ a ∷ b ∷ c ∷ []) s (omega arith) e)
  low_utf8 h (q ∷ v ∷ a ∷ b ∷ c ∷ d ∷ xs) s high u e =
      some_cases ((q == 92) && (v == 117)) (option_and_then (low_then h xs) (code_unit a b c d)) None s
      (sym (at_low h q v a b c d xs) ∙ e)
      (λ _ e1.
      let n = then_some (low_then h xs) (code_unit a b c d) s e1 in
      let behind : IsUtf8 xs = behind_ascii (q ∷ v ∷ a ∷ b ∷ c ∷ []) xs d (unit_fits a b c d n.0 n.1).0 u in
      some_cases (is_low_surrogate n.0) _ None s n.2
      (λ low e2. encoded_then (surrogate_pair h n.0) (content plain xs) s (pair_scalar h n.0 high low)
      (λ r. plain_utf8 xs [] r behind) e2)
      (λ _ e2. absurd (no_option s e2)))
      (λ _ e1. absurd (no_option s e1))

-- ---- lexemes and tokens

abbrev HasText : Token → Type 0
HasText Token.begin_object = ⊤
HasText Token.end_object = ⊤
HasText Token.begin_array = ⊤
HasText Token.end_array = ⊤
HasText (Token.key s) = IsUtf8 s
HasText (Token.string s) = IsUtf8 s
HasText (Token.number s) = ⊤
HasText (Token.boolean b) = ⊤
HasText Token.null = ⊤
HasText Token.bad = ⊤

abbrev TokensHaveTexts : List Token → Type 0
TokensHaveTexts [] = ⊤
TokensHaveTexts (t ∷ ts) = HasText t × TokensHaveTexts ts

abbrev LexemeHasText : Lexeme → Type 0
LexemeHasText (token t) = HasText t
LexemeHasText comma = ⊤
LexemeHasText colon = ⊤

abbrev LexemesHaveTexts : List Lexeme → Type 0
LexemesHaveTexts [] = ⊤
LexemesHaveTexts (l ∷ ls) = LexemeHasText l × LexemesHaveTexts ls

either : {A : Type 0} (P : A → Type 0) (b : Bool) (x y : A) → P x → P y → P (cond b x y)
either P true x y p q = p
either P false x y p q = q

operator_text : (x : ℕ) → LexemeHasText (operator_lexeme x)
operator_text x =
    either LexemeHasText (x == 123) _ _ tt
    (either LexemeHasText (x == 125) _ _ tt (either LexemeHasText (x == 91) _ _ tt
    (either LexemeHasText (x == 93) _ _ tt (either LexemeHasText (x == 44) _ _ tt tt))))

number_text : (t : List ℕ) (o : Option (List ℕ)) → HasText (number_before t o)
number_text t None = tt
number_text t (Some rest) = either HasText (ends_word rest) _ _ tt tt

literal_text : (name : List ℕ) (known : Token) (t : List ℕ) → HasText known → HasText (literal name known t)
literal_text name known t h =
    either HasText (starts_with nat_eq t name && ends_word (drop (length name) t)) known Token.bad h tt

word_text : (t : List ℕ) → HasText (word t)
unfolding word
word_text t =
    either HasText (head t == 116) _ _ (literal_text ascii.true_text (Token.boolean true) t tt)
    (either HasText (head t == 102) _ _ (literal_text ascii.false_text (Token.boolean false) t tt)
    (either HasText (head t == 110) _ _ (literal_text ascii.null_text Token.null t tt)
    (number_text t (after_number t))))

string_text : (xs : List ℕ) (o : Option (List ℕ)) → content plain xs ≡ o → IsUtf8 xs → HasText (string_token o)
string_text xs None e u = tt
string_text xs (Some s) e u = plain_utf8 xs [] s u e

quote_class : (q b o s : Bool) → cond q quote (cond b backslash (cond o operator (cond s space other))) ≡ quote
    → q ≡ true
quote_class true b o s e = refl
quote_class false true o s e = absurd (cc)
quote_class false false true s e = absurd (cc)
quote_class false false false true e = absurd (cc)
quote_class false false false false e = absurd (cc)

lexed : (m : Mode) (c : Class) (x : ℕ) (xs : List ℕ) (k : Mode → List Lexeme)
    → (c ≡ quote → HasText (string_token (content plain xs))) → ((next : Mode) → LexemesHaveTexts (k next))
    → LexemesHaveTexts (lex_byte m c x xs k)
lexed between quote x xs k t rest = (t refl, rest in_string)
lexed between backslash x xs k t rest = (tt, rest in_word)
lexed between operator x xs k t rest = (operator_text x, rest between)
lexed between space x xs k t rest = rest between
lexed between other x xs k t rest = (word_text (x ∷ xs), rest in_word)
lexed in_word quote x xs k t rest = rest in_word
lexed in_word backslash x xs k t rest = rest in_word
lexed in_word operator x xs k t rest = (operator_text x, rest between)
lexed in_word space x xs k t rest = rest between
lexed in_word other x xs k t rest = rest in_word
lexed in_string quote x xs k t rest = rest between
lexed in_string backslash x xs k t rest = rest in_escape
lexed in_string operator x xs k t rest = rest in_string
lexed in_string space x xs k t rest = rest in_string
lexed in_string other x xs k t rest = rest in_string
lexed in_escape c x xs k t rest = rest in_string

lex_texts : (m : Mode) (xs pre : List ℕ) → IsUtf8 (pre ++ xs) → LexemesHaveTexts (lex m xs)
unfolding lex
lex_texts m [] pre u = tt
lex_texts m (x ∷ xs) pre u =
    lexed m (class x) x xs (λ next. lex next xs)
    (λ q. string_text xs (content plain xs) refl
    (behind_ascii pre xs x
    (omega (arith, eqb-true x 34 (quote_class (x == 34) (x == 92) (is_operator x) (is_space x) q))) u))
    (λ next. lex_texts next xs (pre ++ x ∷ []) (subst IsUtf8 (sym (append_assoc pre (x ∷ []) xs)) u))

allowed : (b : Bool) (t : Token) (k : Place → List Token) (next : Place) → HasText t
    → ((p : Place) → TokensHaveTexts (k p)) → TokensHaveTexts (if_allowed b t k next)
allowed true t k next h rest = (h, rest next)
allowed false t k next h rest = (tt, tt)

placed : (p : Place) (t : Token) (before_colon : Bool) (k : Place → List Token) → HasText t
    → ((q : Place) → TokensHaveTexts (k q)) → TokensHaveTexts (place_token p t before_colon k)
placed p Token.begin_object b k h rest = allowed (may_begin p) _ k _ h rest
placed p Token.end_object b k h rest = allowed (may_close p) _ k _ h rest
placed p Token.begin_array b k h rest = allowed (may_begin p) _ k _ h rest
placed p Token.end_array b k h rest = allowed (may_close p) _ k _ h rest
placed p (Token.key s) b k h rest = (tt, tt)
placed p (Token.string s) true k h rest = allowed (may_begin p) (Token.key s) k after_key h rest
placed p (Token.string s) false k h rest = allowed (may_begin p) (Token.string s) k after_value h rest
placed p (Token.number s) b k h rest = allowed (may_begin p) _ k _ h rest
placed p (Token.boolean v) b k h rest = allowed (may_begin p) _ k _ h rest
placed p Token.null b k h rest = allowed (may_begin p) _ k _ h rest
placed p Token.bad b k h rest = (tt, tt)

punctuated : (p : Place) (ls : List Lexeme) → LexemesHaveTexts ls → TokensHaveTexts (punctuate p ls)
unfolding punctuate
punctuated fresh [] h = tt
punctuated after_value [] h = tt
punctuated after_comma [] h = (tt, tt)
punctuated after_key [] h = (tt, tt)
punctuated fresh (token t ∷ ls) h =
    placed fresh t (begins_colon ls) (λ next. punctuate next ls) h.0 (λ next. punctuated next ls h.1)
punctuated after_value (token t ∷ ls) h =
    placed after_value t (begins_colon ls) (λ next. punctuate next ls) h.0 (λ next. punctuated next ls h.1)
punctuated after_comma (token t ∷ ls) h =
    placed after_comma t (begins_colon ls) (λ next. punctuate next ls) h.0 (λ next. punctuated next ls h.1)
punctuated after_key (token t ∷ ls) h =
    placed after_key t (begins_colon ls) (λ next. punctuate next ls) h.0 (λ next. punctuated next ls h.1)
punctuated fresh (comma ∷ ls) h = (tt, tt)
punctuated after_value (comma ∷ ls) h = punctuated after_comma ls h.1
punctuated after_comma (comma ∷ ls) h = (tt, tt)
punctuated after_key (comma ∷ ls) h = (tt, tt)
punctuated fresh (colon ∷ ls) h = (tt, tt)
punctuated after_value (colon ∷ ls) h = (tt, tt)
punctuated after_comma (colon ∷ ls) h = (tt, tt)
punctuated after_key (colon ∷ ls) h = punctuated fresh ls h.1

-- ---- the JSON tree

abbrev mutual
  JsonHasTexts : json.Json → Type 0
  JsonHasTexts json.null = ⊤
  JsonHasTexts (json.boolean b) = ⊤
  JsonHasTexts (json.number s) = ⊤
  JsonHasTexts (json.string s) = IsUtf8 s
  JsonHasTexts (json.array js) = JsonItemsHaveTexts js
  JsonHasTexts (json.object ms) = JsonMembersHaveTexts ms

  JsonItemsHaveTexts : json.Items → Type 0
  JsonItemsHaveTexts json.no_items = ⊤
  JsonItemsHaveTexts (json.item j js) = JsonHasTexts j × JsonItemsHaveTexts js

  JsonMembersHaveTexts : json.Members → Type 0
  JsonMembersHaveTexts json.no_members = ⊤
  JsonMembersHaveTexts (json.member name j ms) = IsUtf8 name × JsonHasTexts j × JsonMembersHaveTexts ms

mutual
  json_texts : (j : json.Json) (ts : List Token) → TokensHaveTexts (json_tokens j ++ ts) → JsonHasTexts j
      × TokensHaveTexts ts
  json_texts json.null ts h = (tt, h.1)
  json_texts (json.boolean b) ts h = (tt, h.1)
  json_texts (json.number s) ts h = (tt, h.1)
  json_texts (json.string s) ts h = h
  json_texts (json.array js) ts h = items_texts js ts h.1
  json_texts (json.object ms) ts h = members_texts ms ts h.1

  items_texts : (js : json.Items) (ts : List Token) → TokensHaveTexts (items_tokens js ++ ts) → JsonItemsHaveTexts js
      × TokensHaveTexts ts
  items_texts json.no_items ts h = (tt, h.1)
  items_texts (json.item j js) ts h =
      let first = json_texts j (items_tokens js ++ ts)
      (subst TokensHaveTexts (append_assoc (json_tokens j) (items_tokens js) ts) h) in
      let others = items_texts js ts first.1 in
      ((first.0, others.0), others.1)

  members_texts : (ms : json.Members) (ts : List Token) → TokensHaveTexts (members_tokens ms ++ ts)
      → JsonMembersHaveTexts ms × TokensHaveTexts ts
  members_texts json.no_members ts h = (tt, h.1)
  members_texts (json.member name j ms) ts h =
      let first = json_texts j (members_tokens ms ++ ts)
      (subst TokensHaveTexts (append_assoc (json_tokens j) (members_tokens ms) ts) h.1) in
      let others = members_texts ms ts first.1 in
      ((h.0, first.0, others.0), others.1)

-- ---- and its value

put_at : (o : Ordering) (name older : List ℕ) (d e : Data) (ms more : Members) → IsUtf8 name → HasTexts d
    → MembersHaveTexts (member older e ms) → MembersHaveTexts more
    → MembersHaveTexts (match_ordering o (member name d (member older e ms)) (member older d ms) (member older e more))
put_at Less name older d e ms more u h all rest = (u, h, all)
put_at Equal name older d e ms more u h all rest = (all.0, h, all.2)
put_at Greater name older d e ms more u h all rest = (all.0, all.1, rest)

put_texts : (name : List ℕ) (d : Data) (ms : Members) → IsUtf8 name → HasTexts d → MembersHaveTexts ms
    → MembersHaveTexts (put name d ms)
put_texts name d no_members u h all = (u, h, tt)
put_texts name d (member older e ms) u h all =
    put_at (slice_cmp nat_cmp name older) name older d e ms (put name d ms) u h all (put_texts name d ms u h all.2)

number_has_texts : (o : Option Num) → Each HasTexts (option_map number o)
number_has_texts None = tt
number_has_texts (Some n) = tt

mutual
  value_texts : (j : json.Json) → JsonHasTexts j → Each HasTexts (of_json j)
  value_texts json.null h = tt
  value_texts (json.boolean b) h = tt
  value_texts (json.number s) h = number_has_texts (number_of s)
  value_texts (json.string s) h = h
  value_texts (json.array js) h = Each-map ItemsHaveTexts HasTexts array (λ ds k. k) (of_items js) (values_texts js h)
  value_texts (json.object ms) h =
      Each-map MembersHaveTexts HasTexts object (λ ds k. k) (of_members ms no_members) (fields_texts ms no_members h tt)

  values_texts : (js : json.Items) → JsonItemsHaveTexts js → Each ItemsHaveTexts (of_items js)
  values_texts json.no_items h = tt
  values_texts (json.item j js) h =
      Each-and_then HasTexts ItemsHaveTexts _
      (λ d k. Each-map ItemsHaveTexts ItemsHaveTexts (item d) (λ ds l. (k, l)) (of_items js) (values_texts js h.1))
      (of_json j) (value_texts j h.0)

  fields_texts : (ms : json.Members) (found : Members) → JsonMembersHaveTexts ms → MembersHaveTexts found
      → Each MembersHaveTexts (of_members ms found)
  fields_texts json.no_members found h all = all
  fields_texts (json.member name j ms) found h all =
      Each-and_then HasTexts MembersHaveTexts _
      (λ d k. fields_texts ms (put name d found) h.2 (put_texts name d found h.0 k all)) (of_json j)
      (value_texts j h.1)

pub HasTexts-read : (text : List ℕ) (d : Data) → IsUtf8 text → read text ≡ Some d → HasTexts d
HasTexts-read text d u e =
    let found = alone (json.value max_depth (tokens text)) d e in
    let j = found.0 in
    let spelled : tokens text ≡ json_tokens j ++ [] = value-json_tokens_back max_depth (tokens text) [] j found.1 in
    let texts = json_texts j []
    (subst TokensHaveTexts spelled (punctuated fresh (lex between text) (lex_texts between text [] u))) in
    subst (Each HasTexts) found.2 (value_texts j texts.0)
