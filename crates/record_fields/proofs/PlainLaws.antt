-- The fields that name no uid are lawful.
use Rattle.std.proofs.Common.{◌≡◌, ◌≢◌, ℕ, zero, suc, ◌+◌, ◌^◌, ◌<◌, ◌≤◌, Bool, true, false, cond, ◌&&◌, ltb, List, []}
use Rattle.std.proofs.Common.{◌∷◌, ◌++◌, length, take, drop, Option, Some, None, IfSome, Ok, Err, refl, sym, ap, subst}
use Rattle.std.proofs.Common.{◌∙◌, arith, inl, inr, lit<}
use Rattle.std.specs.Prelude.{nat_le}
use Rattle.std.specs.Int.{Width, w16, w32, w64, byte_len, from_be_bytes, to_be_bytes}
use Rattle.std.specs.List.{AllByRecursion, list_all}
use Rattle.std.specs.Str.{bytes_eq}
use Rattle.std.proofs.lemmas.Bool.{cases_lt, ltb-false, le-ltb, leb-true, le-leb, and_parts, and_from}
use Rattle.std.proofs.lemmas.List.{take_at, drop_at, take-append-drop, length-append, length-take, get_or-drop}
use Rattle.std.proofs.lemmas.List.{get_or-take, get_or_past}
use Rattle.std.proofs.lemmas.Nat.{be_bytes_2, be_bytes_4, be_bytes_8, from_be_bytes-to_be_bytes_2}
use Rattle.std.proofs.lemmas.Nat.{from_be_bytes-to_be_bytes_4, from_be_bytes-to_be_bytes_8}
use Rattle.std.proofs.lemmas.Slice.Eq.{bytes_eq-Decides}
use Rattle.u1_base.specs.Ids.{IsId, id_in, longest}
use Rattle.u1_base.specs.declared.ids.Form.{Form}
use Rattle.u1_base.specs.declared.ids.Form.TheVariants as form_of
use Rattle.u1_base.specs.declared.limits.TheConstants.{GREATEST_COUNT}
use Rattle.u1_base.proofs.IdFacts.{id_facts, in_id, in_some}
use Rattle.content.specs.Tree.{Tree}
use Rattle.content.specs.Canonical.{canonical}
use Rattle.content.specs.Contents.{IsContent}
use Rattle.content.specs.Reading.{content_in}
use Rattle.content.proofs.Reading.{content_in-canonical, IsContent-content_in}
use Rattle.expr_parser.specs.Limits.{most_exprs}
use Rattle.expr_parser.specs.Reading.{is_spelled, AreExprs}
use Rattle.expr_parser.specs.inner.Reading.{IsSpelled}
use Rattle.expr_parser.proofs.ReadBack.{spelled, expr_in-text}
use Rattle.record_fields.specs.Table.{Text, Table}
use Rattle.record_fields.specs.Fields.{Rest, ◌then◌}
use Rattle.record_fields.specs.Plain.{nothing, byte_in, byte, bytes, beyond, number, sized, text, text_of, id, flag_in}
use Rattle.record_fields.specs.Plain.{flag_byte, flag, if_canonical, canonical_in, Held, held, content_of, held_of}
use Rattle.record_fields.specs.Plain.{content, expression_in, expression, count_in, count, expressions, generation_in}
use Rattle.record_fields.specs.Plain.{generation, some_id, trans_in, trans_text, IsTransAt, trans_at}
use Rattle.record_fields.proofs.Tables.{IsTable}
use Rattle.record_fields.proofs.Lawful.{IsBytes, rest, Took, IsLawful, ok_is, then_lawful, mapped_lawful}
use Rattle.record_fields.proofs.Lawful.{checked_lawful, counted_lawful, same_lawful}

-- ---- values

pub some_is : {A : Type 0} (x y : A) → Some x ≡ Some y → x ≡ y
some_is x y e = cc e

guard_ok : {A : Type 0} (b : Bool) (d : ℕ) (x y : A) → cond b (Err d) (Ok x) ≡ Ok y → (b ≡ false) × (x ≡ y)
guard_ok true d x y e = absurd (cc e)
guard_ok false d x y e = (refl, cc e)

pub chosen : {A : Type 0} (b : Bool) (x y : A) → cond b (Some x) None ≡ Some y → (b ≡ true) × (x ≡ y)
chosen true x y e = (refl, some_is x y e)
chosen false x y e = absurd (cc e)

IsBytes-drop : (n : ℕ) (s : List ℕ) → IsBytes s → IsBytes (drop n s)
IsBytes-drop n s h i = rw get_or-drop (h (n + i))

IsBytes-take : (n : ℕ) (s : List ℕ) → IsBytes s → IsBytes (take n s)
IsBytes-take n s h i =
    elim (cases_lt i n) [
      | inl lt ↦ rw (get_or-take n s i 0 lt) (h i)
      | inr le ↦ rw (get_or_past (take n s) i 0 (omega (arith, length-take n s))) (omega arith)
    ]

-- ---- no bytes, one byte, so many bytes

pub nothing_lawful : IsLawful nothing (λ _. Unit {0})
nothing_lawful = record {
  back = λ t x more is room. refl;
  only = λ r x behind sound fits e.
      subst (λ (y : Unit {0} × Rest). Took nothing (λ _. Unit {0}) r y.0 y.1) (ok_is (tt, r) (x, behind) e)
      (record { is = tt; bytes = refl; table = refl; sound = sound; fits = fits });
}

byte_only : (t : Table) (s : List ℕ) (x : ℕ) (behind : Rest) → IsTable t → IsBytes s → byte_in t s ≡ Ok (x, behind)
    → Took byte (λ b. b < 256) (rest t s) x behind
byte_only t [] x behind sound fits e = absurd (cc e)
byte_only t (b ∷ more) x behind sound fits e =
    let made : ℕ × Rest = (b, rest t more) in
    subst (λ (y : ℕ × Rest). Took byte (λ b. b < 256) (rest t (b ∷ more)) y.0 y.1) (ok_is made (x, behind) e)
    (record { is = fits 0; bytes = refl; table = refl; sound = sound; fits = λ i. fits (suc i) })

pub byte_lawful : IsLawful byte (λ b. b < 256)
byte_lawful = record {
  back = λ t x more is room. refl;
  only = λ r x behind sound fits e. byte_only r.table r.bytes x behind sound fits e;
}

pub bytes_lawful : (n : ℕ) → IsLawful (bytes n) (λ s. length s ≡ n)
bytes_lawful n = record {
  back = λ t x more is room.
      let long : ltb (length (x ++ more)) n ≡ false = le-ltb _ _ (omega (arith, length-append x more, is)) in
      rw (long, take_at x more n is, drop_at x more n is) refl;
  only = λ r x behind sound fits e.
      let g = guard_ok (ltb (length r.bytes) n) (length r.bytes) (take n r.bytes, beyond n r) (x, behind) e in
      let long : n ≤ length r.bytes = ltb-false _ _ g.0 in
      subst (λ (y : List ℕ × Rest). Took (bytes n) (λ s. length s ≡ n) r y.0 y.1) g.1 (record {
        is = omega (arith, length-take n r.bytes, long);
        bytes = sym (take-append-drop n r.bytes);
        table = refl;
        sound = sound;
        fits = IsBytes-drop n r.bytes fits;
      });
}

-- ---- numbers

pub record IsWide (w : Width) (limit : ℕ) : Type 0 where
  pub len : (n : ℕ) → length (to_be_bytes w n) ≡ byte_len w
  pub back : (s : List ℕ) → length s ≡ byte_len w → IsBytes s → to_be_bytes w (from_be_bytes w s) ≡ s
  pub again : (n : ℕ) → n < limit → from_be_bytes w (to_be_bytes w n) ≡ n
  pub below : (s : List ℕ) → IsBytes s → from_be_bytes w s < limit

pub wide16 : IsWide w16 (2 ^ 16)
wide16 = record {
  len = λ n. refl;
  back = λ s len fits. be_bytes_2 s _ len fits refl;
  again = λ n lt. from_be_bytes-to_be_bytes_2 n lt;
  below = λ s fits. omega (arith, fits 0, fits 1);
}

pub wide32 : IsWide w32 (2 ^ 32)
wide32 = record {
  len = λ n. refl;
  back = λ s len fits. be_bytes_4 s _ len fits refl;
  again = λ n lt. from_be_bytes-to_be_bytes_4 n lt;
  below = λ s fits. omega (arith, fits 0, fits 1, fits 2, fits 3);
}

pub wide64 : IsWide w64 (2 ^ 64)
wide64 = record {
  len = λ n. refl;
  back = λ s len fits. be_bytes_8 s _ len fits refl;
  again = λ n lt. from_be_bytes-to_be_bytes_8 n lt;
  below = λ s fits. omega (arith, fits 0, fits 1, fits 2, fits 3, fits 4, fits 5, fits 6, fits 7);
}

pub number_lawful : (w : Width) (limit : ℕ) → IsWide w limit → IsLawful (number w) (λ n. n < limit)
number_lawful w limit wide = record {
  back = λ t x more is room.
      let len = wide.len x in
      let long : ltb (length (to_be_bytes w x ++ more)) (byte_len w) ≡ false =
      le-ltb _ _ (omega (arith, length-append (to_be_bytes w x) more, len)) in
      rw (
        long,
        take_at (to_be_bytes w x) more (byte_len w) len,
        drop_at (to_be_bytes w x) more (byte_len w) len,
        wide.again x is,
      ) refl;
  only = λ r x behind sound fits e.
      let k = byte_len w in
      let g = guard_ok (ltb (length r.bytes) k) (length r.bytes) (from_be_bytes w (take k r.bytes), beyond k r)
      (x, behind) e in
      let long : k ≤ length r.bytes = ltb-false _ _ g.0 in
      let front : to_be_bytes w (from_be_bytes w (take k r.bytes)) ≡ take k r.bytes =
      wide.back (take k r.bytes) (omega (arith, length-take k r.bytes, long)) (IsBytes-take k r.bytes fits) in
      subst (λ (y : ℕ × Rest). Took (number w) (λ n. n < limit) r y.0 y.1) g.1 (record {
        is = wide.below (take k r.bytes) (IsBytes-take k r.bytes fits);
        bytes = sym (take-append-drop k r.bytes) ∙ ap (λ s. s ++ drop k r.bytes) (sym front);
        table = refl;
        sound = sound;
        fits = IsBytes-drop k r.bytes fits;
      });
}

-- ---- texts

sized_lawful : (w : Width) (limit : ℕ) → IsWide w limit → IsLawful (sized w) (λ s. (s.0 < limit) × (length s.1 ≡ s.0))
sized_lawful w limit wide = then_lawful (number w) bytes (λ n. n < limit) (λ n s. length s ≡ n)
    (number_lawful w limit wide) (λ n is. bytes_lawful n)

text_from : (n : ℕ) (s u : Text) → length s ≡ n → s ≡ u → ◌≡◌ {A = ℕ × Text} (length u, u) (n, s)
text_from n s u len same = subst (λ (v : Text). ◌≡◌ {A = ℕ × Text} (length v, v) (n, s)) same
    (ap (λ (k : ℕ). let p : ℕ × Text = (k, s) in p) len)

pub text_lawful : (w : Width) (limit : ℕ) → IsWide w limit → IsLawful (text w) (λ s. length s < limit)
text_lawful w limit wide =
    checked_lawful (sized w) (λ s. Some s.1) (λ s. (length s, s)) (λ s. (s.0 < limit) × (length s.1 ≡ s.0))
    (λ s. length s < limit) (sized_lawful w limit wide)
    (λ s is. ((is, refl), refl))
    (λ a b is e. let same = some_is a.1 b e
    in (subst (λ (v : Text). length v < limit) same (omega (arith, is.0, is.1)), text_from a.0 a.1 b is.1 same))

pub text_of_lawful : {B : Type 0} (w : Width) (limit : ℕ) (test : Text → Option B) (from : B → Text) (Is : B → Type 0)
    → IsWide w limit → ((b : B) → Is b → (length (from b) < limit) × (test (from b) ≡ Some b))
    → ((s : Text) (b : B) → test s ≡ Some b → Is b × (from b ≡ s)) → IsLawful (text_of w test from) Is
text_of_lawful w limit test from Is wide forth back =
    checked_lawful (text w) test from (λ s. length s < limit) Is (text_lawful w limit wide) forth
    (λ s b is e. back s b e)

longest_fits : (form : Form) → longest form < 2 ^ 16
longest_fits form_of.Document = lit< tt
longest_fits form_of.Replica = lit< tt
longest_fits form_of.Transaction = lit< tt
longest_fits form_of.Name = lit< tt

pub id_lawful : (form : Form) → IsLawful (id form) (IsId form)
id_lawful form =
    text_of_lawful w16 (2 ^ 16) (id_in form) (λ u. u) (IsId form) wide16
    (λ u is. (omega (arith, (id_facts form u is).1, longest_fits form), in_id form u is))
    (λ s u e. let h = in_some form s u e in (h.1, sym h.0))

-- ---- flags

flag_back : (b : Bool) → (flag_byte b < 256) × (flag_in (flag_byte b) ≡ Some b)
flag_back true = (lit< tt, refl)
flag_back false = (lit< tt, refl)

flag_only : (n : ℕ) (b : Bool) → flag_in n ≡ Some b → flag_byte b ≡ n
flag_only zero true e = absurd (cc e)
flag_only zero false e = refl
flag_only (suc zero) true e = refl
flag_only (suc zero) false e = absurd (cc e)
flag_only (suc (suc n)) b e = absurd (cc e)

pub flag_lawful : IsLawful flag (λ _. Unit {0})
flag_lawful = checked_lawful byte flag_in flag_byte (λ b. b < 256) (λ _. Unit {0}) byte_lawful (λ b is. flag_back b)
    (λ n b is e. (tt, flag_only n b e))

-- ---- contents

canonical_back : (t : Tree) → IsContent t → (length (canonical t) < 2 ^ 32) × (canonical_in (canonical t) ≡ Some t)
canonical_back t is = (
  omega (arith, is.short),
  ap (if_canonical (canonical t)) (content_in-canonical t is)
      ∙ ap (λ b. cond b (Some t) None) ((bytes_eq-Decides (canonical t) (canonical t)).1 refl),
)

canonical_only : (s : Text) (t : Tree) → canonical_in s ≡ Some t → IsContent t × (canonical t ≡ s)
canonical_only s t e = by (content_in s) refl e
  where
    by : (o : Option Tree) → content_in s ≡ o → if_canonical s o ≡ Some t → IsContent t × (canonical t ≡ s)
    by None read e = absurd (cc e)
    by (Some u) read e =
        let h = chosen (bytes_eq (canonical u) s) u t e in (
          IsContent-content_in s t (read ∙ ap Some h.1),
          ap canonical (sym h.1)
              ∙ (bytes_eq-Decides (canonical u) s).0 h.0,
        )

abbrev IsHeld : (b : Bool) → Held b → Type 0
IsHeld false t = Unit {0}
IsHeld true t = IsContent t

held_lawful : (b : Bool) → IsLawful (held b) (IsHeld b)
held_lawful false = nothing_lawful
held_lawful true = text_of_lawful w32 (2 ^ 32) canonical_in canonical IsContent wide32 canonical_back canonical_only

content_back : (o : Option Tree) → IfSome o IsContent → (Unit {0} × IsHeld (held_of o).0 (held_of o).1)
    × (content_of (held_of o).0 (held_of o).1 ≡ o)
content_back None is = ((tt, tt), refl)
content_back (Some t) is = ((tt, is), refl)

content_only : (b : Bool) (h : Held b) → IsHeld b h → IfSome (content_of b h) IsContent
    × (held_of (content_of b h) ≡ (b, h))
content_only false h is = (tt, refl)
content_only true h is = (is, refl)

pub content_lawful : IsLawful content (λ o. IfSome o IsContent)
content_lawful =
    mapped_lawful (flag then held) (λ p. content_of p.0 p.1) held_of (λ p. Unit {0} × IsHeld p.0 p.1)
    (λ o. IfSome o IsContent)
    (then_lawful flag held (λ _. Unit {0}) IsHeld flag_lawful (λ b is. held_lawful b)) content_back
    (λ p is. content_only p.0 p.1 is.1)

-- ---- expressions

expression_back : (s : Text) → IsSpelled s → (length s < 2 ^ 16) × (expression_in s ≡ Some s)
expression_back s is =
    let read = spelled s is in
    (omega (arith, ((expr_in-text read.0 s).0 read.1).short), ap (λ b. cond b (Some s) None) is)

expression_only : (s u : Text) → expression_in s ≡ Some u → IsSpelled u × (u ≡ s)
expression_only s u e =
    let h = chosen (is_spelled s) s u e in (subst IsSpelled h.1 h.0, sym h.1)

pub expression_lawful : IsLawful expression IsSpelled
expression_lawful = text_of_lawful w16 (2 ^ 16) expression_in (λ s. s) IsSpelled wide16 expression_back expression_only

abbrev pub IsCount : ℕ → Type 0
IsCount n = (1 ≤ n) × (n ≤ most_exprs)

count_back : (n : ℕ) → IsCount n → (n < 256) × (count_in n ≡ Some n)
count_back n is = (
  omega (arith, is.1),
  ap (λ b. cond b (Some n) None)
      (and_from (nat_le 1 n) (nat_le n most_exprs) (le-leb 1 n is.0) (le-leb n most_exprs is.1)),
)

count_only : (n m : ℕ) → count_in n ≡ Some m → IsCount m × (m ≡ n)
count_only n m e =
    let h = chosen (nat_le 1 n && nat_le n most_exprs) n m e in
    let both = and_parts (nat_le 1 n) (nat_le n most_exprs) h.0 in
    (subst (λ k. (1 ≤ k) × (k ≤ most_exprs)) h.1 (leb-true 1 n both.0, leb-true n most_exprs both.1), sym h.1)

all_spelled : (es : List Text) → list_all is_spelled es ≡ true → AllByRecursion IsSpelled es
all_spelled [] h = tt
all_spelled (e ∷ es) h = let both = and_parts (is_spelled e) (list_all is_spelled es) h
    in (both.0, all_spelled es both.1)

spelled_all : (es : List Text) → AllByRecursion IsSpelled es → list_all is_spelled es ≡ true
spelled_all [] h = refl
spelled_all (e ∷ es) h = and_from (is_spelled e) (list_all is_spelled es) h.0 (spelled_all es h.1)

counted_exprs : (es : List Text) → AreExprs es → IsCount (length es) × AllByRecursion IsSpelled es
counted_exprs es are =
    let outer = and_parts (nat_le 1 (length es) && nat_le (length es) most_exprs) (list_all is_spelled es) are in
    let sizes = and_parts (nat_le 1 (length es)) (nat_le (length es) most_exprs) outer.0 in
    ((leb-true 1 (length es) sizes.0, leb-true (length es) most_exprs sizes.1), all_spelled es outer.1)

exprs_counted : (es : List Text) → IsCount (length es) × AllByRecursion IsSpelled es → AreExprs es
exprs_counted es is =
    and_from (nat_le 1 (length es) && nat_le (length es) most_exprs) (list_all is_spelled es)
    (and_from (nat_le 1 (length es)) (nat_le (length es) most_exprs) (le-leb 1 (length es) is.0.0)
    (le-leb (length es) most_exprs is.0.1)) (spelled_all es is.1)

pub count_lawful : IsLawful count IsCount
count_lawful = checked_lawful byte count_in (λ n. n) (λ b. b < 256) IsCount byte_lawful count_back
    (λ n m is e. count_only n m e)

pub expressions_lawful : IsLawful expressions AreExprs
expressions_lawful =
    same_lawful expressions (λ es. IsCount (length es) × AllByRecursion IsSpelled es) AreExprs
    (counted_lawful count expression IsCount IsSpelled count_lawful expression_lawful) counted_exprs exprs_counted

-- ---- places of logs

generation_back : (n : ℕ) → n ≤ GREATEST_COUNT → (n < 2 ^ 64) × (generation_in n ≡ Some n)
generation_back n is = (omega (arith, is), ap (λ b. cond b (Some n) None) (le-leb n GREATEST_COUNT is))

generation_only : (n m : ℕ) → generation_in n ≡ Some m → (m ≤ GREATEST_COUNT) × (m ≡ n)
generation_only n m e =
    let h = chosen (nat_le n GREATEST_COUNT) n m e
    in (subst (λ k. k ≤ GREATEST_COUNT) h.1 (leb-true n GREATEST_COUNT h.0), sym h.1)

pub generation_lawful : IsLawful generation (λ n. n ≤ GREATEST_COUNT)
generation_lawful =
    checked_lawful (number w64) generation_in (λ n. n) (λ n. n < 2 ^ 64) (λ n. n ≤ GREATEST_COUNT)
    (number_lawful w64 (2 ^ 64) wide64) generation_back (λ n m is e. generation_only n m e)

trans_back : (g : ℕ) (o : Option Text) → IsTransAt g o → (length (trans_text o) < 2 ^ 16)
    × (trans_in g (trans_text o) ≡ Some o)
trans_back zero None is = (lit< tt, refl)
trans_back zero (Some t) is = absurd is
trans_back (suc g) None is = absurd is
trans_back (suc g) (Some t) is =
    (omega (arith, (id_facts form_of.Transaction t is).1), ap some_id (in_id form_of.Transaction t is))

trans_id : (g : ℕ) (s : Text) (r : Option Text) (o : Option Text) → id_in form_of.Transaction s ≡ r
    → some_id r ≡ Some o → IsTransAt (suc g) o × (trans_text o ≡ s)
trans_id g s None o read e = absurd (cc e)
trans_id g s (Some t) o read e =
    let h = in_some form_of.Transaction s t read in
    subst (λ (p : Option Text). IsTransAt (suc g) p × (trans_text p ≡ s)) (some_is (Some t) o e) (h.1, sym h.0)

trans_only : (g : ℕ) (s : Text) (o : Option Text) → trans_in g s ≡ Some o → IsTransAt g o × (trans_text o ≡ s)
trans_only zero [] o e = subst (λ (p : Option Text). IsTransAt 0 p × (trans_text p ≡ [])) (some_is None o e) (tt, refl)
trans_only zero (b ∷ s) o e = absurd (cc e)
trans_only (suc g) s o e = trans_id g s (id_in form_of.Transaction s) o refl e

pub trans_lawful : (g : ℕ) → IsLawful (trans_at g) (IsTransAt g)
trans_lawful g = text_of_lawful w16 (2 ^ 16) (trans_in g) trans_text (IsTransAt g) wide16 (trans_back g) (trans_only g)

-- above generation 0 there is a transaction id
pub trans_above : (g : ℕ) (s : Text) → g ≢ 0 → trans_in g s ≡ some_id (id_in form_of.Transaction s)
trans_above zero s above = absurd (above refl)
trans_above (suc g) s above = refl

-- an id is short, and so is what equals one
pub id_short : (form : Form) (u s : Text) → IsId form u → s ≡ u → length s < 2 ^ 16
id_short form u s is same = subst (λ (v : Text). length v < 2 ^ 16) (sym same)
    (omega (arith, (id_facts form u is).1, longest_fits form))
