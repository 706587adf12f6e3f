-- The plain reader of each field finds the field that stands there, and nothing else.
use Rattle.std.proofs.Common.{◌≡◌, ℕ, ◌^◌, ◌<◌, ◌≤◌, inl, inr, Bool, true, false, ◌&&◌, cond, leb, ltb, Option, Some}
use Rattle.std.proofs.Common.{None, MatchOption, List, length, get_or, take, drop, refl, sym, ◌∙◌, ap, subst, arith}
use Rattle.std.specs.Int.{w16, w32, w64, from_be_bytes}
use Rattle.std.proofs.lemmas.Nat.{from_be_bytes-to_be_bytes_2, from_be_bytes-to_be_bytes_4, from_be_bytes-to_be_bytes_8}
use Rattle.std.proofs.lemmas.Slice.Eq.{bytes_eq-Decides}
use Rattle.std.proofs.lemmas.Bool.{and_from, and_parts}
use Rattle.std.proofs.lemmas.Bool.Decides.{nat_tests}
use Rattle.u1_base.specs.Fields.{u16_bytes, u32_bytes, u64_bytes, text_field}
use Rattle.u1_base.specs.Ids.{IsId, is_id}
use Rattle.u1_base.specs.declared.ids.Form.{Form}
use Rattle.u1_base.proofs.Booleans.{not_both}
use Rattle.journal.specs.Image.{IsFormat, IsLimit, IsBody, first_field, body_field}
use Rattle.journal.specs.Damage.{Begins}
use Rattle.journal.specs.inner.Fields.{NoFirst, NoId, NoLimit, NoBody}
use Rattle.journal.specs.Reader.{begins, read_first, read_text, read_limit, read_body}
use Rattle.journal.proofs.Fields.{begins_front, front_begins, first_front, limit_front, text_front, body_front}
use Rattle.journal.proofs.Fields.{text_same, id_short, u64-same}

-- what was found is this one, where there is one and no other
pub some_is : {A : Type 0} (o : Option A) (No : Type 0) (P : A → Type 0) (x : A) → MatchOption o No P → (No → ⊥)
    → ((y : A) → P y → y ≡ x) → o ≡ Some x
some_is None No P x m there one = absurd (there m)
some_is (Some y) No P x m there one = ap Some (one y m)

pub none_is : {A : Type 0} (o : Option A) (No : Type 0) (P : A → Type 0) → MatchOption o No P
    → ((y : A) → P y → ⊥) → o ≡ None
none_is None No P m missing = refl
none_is (Some y) No P m missing = absurd (missing y m)

begins_true : (field file : List ℕ) → begins field file ≡ true → Begins field file
begins_true field file e = front_begins field file (length field)
    ((bytes_eq-Decides (take (length field) file) field).0 e)

begins_is : (field file : List ℕ) → Begins field file → begins field file ≡ true
begins_is field file b = (bytes_eq-Decides (take (length field) file) field).1 (begins_front field file b)

-- an answer that two tests guard
guarded : {A : Type 0} (b c : Bool) (x : A) (No : Type 0) (P : A → Type 0) → (b ≡ true → c ≡ true → P x)
    → ((b && c) ≡ false → No) → MatchOption (cond (b && c) (Some x) None) No P
guarded true true x No P there_is missing = there_is refl refl
guarded true false x No P there_is missing = missing refl
guarded false c x No P there_is missing = missing refl

first_cases : (b c : Bool) (file : List ℕ) → (b ≡ true → Begins (first_field 1) file)
    → (c ≡ true → Begins (first_field 2) file)
    → (Begins (first_field 1) file → b ≡ true) → (Begins (first_field 2) file → c ≡ true)
    → MatchOption (cond b (Some 1) (cond c (Some 2) None)) (NoFirst file)
    (λ format. IsFormat format × Begins (first_field format) file)
first_cases true c file p q r s = (inl refl, p refl)
first_cases false true file p q r s = (inr refl, q refl)
first_cases false false file p q r s = λ format known b. neither format known b
  where
    neither : (format : ℕ) → IsFormat format → Begins (first_field format) file → ⊥
    neither format (inl e) b = absurd (cc (r (subst (λ (n : ℕ). Begins (first_field n) file) e b)))
    neither format (inr e) b = absurd (cc (s (subst (λ (n : ℕ). Begins (first_field n) file) e b)))

pub read_first_is : (file : List ℕ)
    → MatchOption (read_first file) (NoFirst file) (λ format. IsFormat format × Begins (first_field format) file)
read_first_is file =
    first_cases (begins (first_field 1) file) (begins (first_field 2) file) file (begins_true (first_field 1) file)
    (begins_true (first_field 2) file)
    (begins_is (first_field 1) file) (begins_is (first_field 2) file)

last_of_first : (format : ℕ) → get_or (first_field format) 7 0 ≡ format
unfolding first_field
last_of_first format = refl

pub first_same : (a b : ℕ) (file : List ℕ) → Begins (first_field a) file → Begins (first_field b) file → a ≡ b
first_same a b file ba bb =
    sym (last_of_first a) ∙ ap (λ (l : List ℕ). get_or l 7 0) (sym (first_front a file ba) ∙ first_front b file bb)
    ∙ last_of_first b

le_test : (a b : ℕ) → a ≤ b → leb a b ≡ true
le_test a b h = grind (arith, nat_tests)

lt_test : (a b : ℕ) → a < b → ltb a b ≡ true
lt_test a b h = grind (arith, nat_tests)

le_from : (a b : ℕ) → leb a b ≡ true → a ≤ b
le_from a b e = grind (arith, nat_tests)

lt_from : (a b : ℕ) → ltb a b ≡ true → a < b
lt_from a b e = grind (arith, nat_tests)

text_decoded : (text file : List ℕ) → length text < 65536 → Begins (text_field text) file
    → take (from_be_bytes w16 (take 2 file)) (drop 2 file) ≡ text
unfolding u16_bytes
text_decoded text file short b =
    let f = text_front text file b in
    let number : from_be_bytes w16 (take 2 file) ≡ length text = ap (from_be_bytes w16) f.0
    ∙ from_be_bytes-to_be_bytes_2 (length text) short in
    ap (λ (n : ℕ). take n (drop 2 file)) number ∙ f.1

body_decoded : (body file : List ℕ) → length body < 2 ^ 32 → Begins (body_field body) file
    → take (from_be_bytes w32 (take 4 file)) (drop 4 file) ≡ body
unfolding u32_bytes
body_decoded body file short b =
    let f = body_front body file b in
    let number : from_be_bytes w32 (take 4 file) ≡ length body = ap (from_be_bytes w32) f.0
    ∙ from_be_bytes-to_be_bytes_4 (length body) short in
    ap (λ (n : ℕ). take n (drop 4 file)) number ∙ f.1

limit_decoded : (limit : ℕ) (file : List ℕ) → limit < 2 ^ 64 → Begins (u64_bytes limit) file
    → from_be_bytes w64 (take 8 file) ≡ limit
unfolding u64_bytes
limit_decoded limit file small b = ap (from_be_bytes w64) (limit_front limit file b)
    ∙ from_be_bytes-to_be_bytes_8 limit small

pub read_text_is : (form : Form) (file : List ℕ)
    → MatchOption (read_text form file) (NoId form file) (λ text. IsId form text × Begins (text_field text) file)
read_text_is form file =
    let text = take (from_be_bytes w16 (take 2 file)) (drop 2 file) in
    guarded (begins (text_field text) file) (is_id form text) text (NoId form file)
    (λ text. IsId form text × Begins (text_field text) file)
    (λ p q. (q, begins_true (text_field text) file p))
    (λ missing id is b.
    let same : text ≡ id = text_decoded id file (id_short form id is) b in
    not_both (begins (text_field text) file && is_id form text)
    (and_from (begins (text_field text) file) (is_id form text)
    (begins_is (text_field text) file (subst (λ (l : List ℕ). Begins (text_field l) file) (sym same) b))
    (subst (IsId form) (sym same) is)) missing)

pub id_same : (form : Form) (a b file : List ℕ) → IsId form a × Begins (text_field a) file → IsId form b
    → Begins (text_field b) file → a ≡ b
id_same form a b file p is begun = text_same a b file (id_short form a p.0) (id_short form b is) p.1 begun

pub read_limit_is : (file : List ℕ)
    → MatchOption (read_limit file) (NoLimit file) (λ limit. IsLimit limit × Begins (u64_bytes limit) file)
read_limit_is file =
    let limit = from_be_bytes w64 (take 8 file) in
    guarded (begins (u64_bytes limit) file && leb 1024 limit) (leb limit (2 ^ 40)) limit (NoLimit file)
    (λ limit. IsLimit limit × Begins (u64_bytes limit) file)
    (λ p q. let r = and_parts (begins (u64_bytes limit) file) (leb 1024 limit) p in
    ((le_from 1024 limit r.1, le_from limit (2 ^ 40) q), begins_true (u64_bytes limit) file r.0))
    (λ missing n known b.
    let same : limit ≡ n = limit_decoded n file (omega (arith, known.1)) b in
    not_both ((begins (u64_bytes limit) file && leb 1024 limit) && leb limit (2 ^ 40))
    (and_from (begins (u64_bytes limit) file && leb 1024 limit) (leb limit (2 ^ 40))
    (and_from (begins (u64_bytes limit) file) (leb 1024 limit)
    (begins_is (u64_bytes limit) file (subst (λ (m : ℕ). Begins (u64_bytes m) file) (sym same) b))
    (le_test 1024 limit (omega (arith, same, known.0))))
    (le_test limit (2 ^ 40) (omega (arith, same, known.1)))) missing)

pub limit_same : (a b : ℕ) (file : List ℕ) → IsLimit a × Begins (u64_bytes a) file → IsLimit b
    → Begins (u64_bytes b) file → a ≡ b
limit_same a b file p is begun =
    u64-same a b (omega (arith, p.0.1)) (omega (arith, is.1)) (sym (limit_front a file p.1) ∙ limit_front b file begun)

pub read_body_is : (file : List ℕ)
    → MatchOption (read_body file) (NoBody file) (λ body. IsBody body × Begins (body_field body) file)
read_body_is file =
    let body = take (from_be_bytes w32 (take 4 file)) (drop 4 file) in
    guarded (begins (body_field body) file && leb 1 (length body)) (ltb (length body) (2 ^ 32)) body (NoBody file)
    (λ body. IsBody body × Begins (body_field body) file)
    (λ p q. let r = and_parts (begins (body_field body) file) (leb 1 (length body)) p in
    ((le_from 1 (length body) r.1, lt_from (length body) (2 ^ 32) q), begins_true (body_field body) file r.0))
    (λ missing other is b.
    let same : body ≡ other = body_decoded other file is.1 b in
    not_both ((begins (body_field body) file && leb 1 (length body)) && ltb (length body) (2 ^ 32))
    (and_from (begins (body_field body) file && leb 1 (length body)) (ltb (length body) (2 ^ 32))
    (and_from (begins (body_field body) file) (leb 1 (length body))
    (begins_is (body_field body) file (subst (λ (l : List ℕ). Begins (body_field l) file) (sym same) b))
    (le_test 1 (length body) (omega (arith, ap length same, is.0))))
    (lt_test (length body) (2 ^ 32) (omega (arith, ap length same, is.1)))) missing)

pub body_same : (a b file : List ℕ) → IsBody a × Begins (body_field a) file → IsBody b
    → Begins (body_field b) file → a ≡ b
body_same a b file p is begun = sym (body_decoded a file p.0.1 p.1) ∙ body_decoded b file is.1 begun
