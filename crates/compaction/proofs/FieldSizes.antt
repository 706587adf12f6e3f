-- How long the bytes of a field are: as the value says, and the texts of the uids that it names for the first time.
use Rattle.std.proofs.Common.{◌≡◌, ℕ, ◌+◌, Bool, true, false, cond, List, [], ◌∷◌, ◌++◌, length, Option, Some, None}
use Rattle.std.proofs.Common.{refl, sym, ap, ap₂, ◌∙◌, arith, length-append}
use Rattle.std.specs.Prelude.{◌||◌, is_some}
use Rattle.std.specs.Int.{Width, w16, w32, w64, to_be_bytes}
use Rattle.std.specs.List.{flat_map, list_any, position_from}
use Rattle.std.proofs.lemmas.List.Folds.{list_any-append}
use Rattle.u1_base.specs.Ids.{id_in, same_id}
use Rattle.u1_base.specs.declared.ids.Form.{Form}
use Rattle.u1_base.specs.declared.ids.Form.TheVariants.{Replica}
use Rattle.vector_rev.specs.Counts.{Uid}
use Rattle.record_fields.specs.Table.{Text, Table, uids, number_of, with_uid, after}
use Rattle.record_fields.specs.Fields.{Field, ◌then◌, mapped, checked, each_spelled, each, counted}
use Rattle.record_fields.specs.Plain.{nothing, byte, bytes, number, sized, text, text_of, id}
use Rattle.record_fields.specs.Named.{reference_bytes, reference}
use Rattle.record_fields.proofs.Tables.{number_of-from}
use Rattle.compaction.proofs.Texts.{uid_texts, seen_after, texts-append}

-- ---- which uids have numbers

found_from : (us : List Text) (u : Text) (n : ℕ) → is_some (position_from (same_id u) n us) ≡ list_any (same_id u) us
found_from [] u n = refl
found_from (v ∷ us) u n =
    elim (same_id u v) as
    (λ b. is_some (cond b (Some n) (position_from (same_id u) (n + 1) us)) ≡ (b || list_any (same_id u) us)) [
      | true ↦ refl
      | false ↦ found_from us u (n + 1)
    ]

pub is_some-number_of : (us : List Text) (u : Text) → is_some (number_of us u) ≡ list_any (same_id u) us
is_some-number_of us u = ap (λ o. is_some o) (number_of-from us u) ∙ found_from us u 0

-- the uids that have numbers are these
abbrev pub Agree : Table → List Uid → Type 0
Agree t seen = (w : Uid) → list_any (same_id w) (uids t) ≡ list_any (same_id w) seen

agree_with : (t : Table) (seen : List Uid) (u : Uid) → Agree t seen
    → Agree (with_uid t u) (cond (list_any (same_id u) seen) seen (u ∷ seen))
agree_with t seen u a w =
    ap (λ b. list_any (same_id w) (uids (cond b t (record { given = t.given; added = t.added ++ u ∷ [] }))))
    (is_some-number_of (uids t) u ∙ a u)
    ∙ elim (list_any (same_id u) seen) as
    (λ b. list_any (same_id w) (uids (cond b t (record { given = t.given; added = t.added ++ u ∷ [] })))
    ≡ list_any (same_id w) (cond b seen (u ∷ seen))) [
      | true ↦ a w
      | false ↦
          list_any-append (same_id w) t.given (t.added ++ u ∷ [])
          ∙ ap (λ b. list_any (same_id w) t.given || b) (list_any-append (same_id w) t.added (u ∷ []))
          ∙ last_first (list_any (same_id w) t.given) (list_any (same_id w) t.added) (same_id w u)
          ∙ ap (λ b. same_id w u || b) (sym (list_any-append (same_id w) t.given t.added) ∙ a w)
    ]
  where
    last_first : (x y z : Bool) → (x || (y || (z || false))) ≡ (z || (x || y))
    last_first true y true = refl
    last_first true y false = refl
    last_first false true true = refl
    last_first false true false = refl
    last_first false false true = refl
    last_first false false false = refl

pub agree_after : (t : Table) (seen us : List Uid) → Agree t seen → Agree (after t us) (seen_after seen us)
agree_after t seen [] a w = a w
agree_after t seen (u ∷ us) a w =
    agree_after (with_uid t u) (cond (list_any (same_id u) seen) seen (u ∷ seen)) us (agree_with t seen u a) w
    ∙ elim (list_any (same_id u) seen) as
    (λ b. list_any (same_id w) (seen_after (cond b seen (u ∷ seen)) us)
    ≡ list_any (same_id w) (cond b (seen_after seen us) (seen_after (u ∷ seen) us))) [
      | true ↦ refl
      | false ↦ refl
    ]

-- ---- sizes

abbrev pub total : {A : Type 0} → (A → ℕ) → List A → ℕ
total size [] = 0
total size (x ∷ xs) = size x + total size xs

-- the bytes of each value are as many as its size, and the texts of the uids that it names for the first time
abbrev pub Sized : {A : Type 0} → Field A → (A → ℕ) → Type 0
Sized {A} f size = (t : Table) (seen : List Uid) (x : A) → Agree t seen
    → length (f.spelled t x) ≡ size x + uid_texts seen (f.named x)

two_sums : (ls lt s t u v w : ℕ) → ls ≡ s + u → lt ≡ t + v → w ≡ u + v → ls + lt ≡ (s + t) + w
two_sums ls lt s t u v w p q r = omega arith

pub then_sized : {A : Type 0} {B : A → Type 0} (f : Field A) (g : (a : A) → Field (B a)) (sf : A → ℕ)
    (sg : (a : A) → B a → ℕ) → Sized f sf → ((a : A) → Sized (g a) (sg a)) → Sized (f then g) (λ x. sf x.0 + sg x.0 x.1)
then_sized f g sf sg hf hg t seen x a =
    length-append (f.spelled t x.0) ((g x.0).spelled (after t (f.named x.0)) x.1)
    ∙ two_sums _ _ (sf x.0) (sg x.0 x.1) _ _ _ (hf t seen x.0 a)
    (hg x.0 (after t (f.named x.0)) (seen_after seen (f.named x.0)) x.1 (agree_after t seen (f.named x.0) a))
    (texts-append (f.named x.0) ((g x.0).named x.1) seen)

-- where the second one does not depend on the first
pub pair_sized : {A B : Type 0} (f : Field A) (g : Field B) (sf : A → ℕ) (sg : B → ℕ) → Sized f sf → Sized g sg
    → Sized (f then λ _. g) (λ x. sf x.0 + sg x.1)
pair_sized f g sf sg hf hg = then_sized f (λ _. g) sf (λ _. sg) hf (λ _. hg)

pub mapped_sized : {A B : Type 0} (f : Field A) (to : A → B) (from : B → A) (size : A → ℕ) → Sized f size
    → Sized (mapped f to from) (λ b. size (from b))
mapped_sized f to from size h t seen x a = h t seen (from x) a

pub checked_sized : {A B : Type 0} (f : Field A) (test : A → Option B) (from : B → A) (size : A → ℕ) → Sized f size
    → Sized (checked f test from) (λ b. size (from b))
checked_sized f test from size h t seen x a = h t seen (from x) a

each_spelled_sized : {A : Type 0} (f : Field A) (size : A → ℕ) → Sized f size
    → (t : Table) (seen : List Uid) (xs : List A) → Agree t seen
    → length (each_spelled f t xs) ≡ total size xs + uid_texts seen (flat_map f.named xs)
each_spelled_sized f size h t seen [] a = omega arith
each_spelled_sized f size h t seen (x ∷ xs) a =
    length-append (f.spelled t x) (each_spelled f (after t (f.named x)) xs)
    ∙ two_sums _ _ (size x) (total size xs) _ _ _ (h t seen x a)
    (each_spelled_sized f size h (after t (f.named x)) (seen_after seen (f.named x)) xs
    (agree_after t seen (f.named x) a))
    (texts-append (f.named x) (flat_map f.named xs) seen)

pub counted_sized : {A : Type 0} (count : Field ℕ) (f : Field A) (sc : ℕ → ℕ) (size : A → ℕ) → Sized count sc
    → Sized f size → Sized (counted count f) (λ xs. sc (length xs) + total size xs)
counted_sized {A} count f sc size hc h =
    mapped_sized (count then each f) (λ p. p.1) (λ (xs : List A). (length xs, xs)) (λ p. sc p.0 + total size p.1)
    (then_sized count (each f) sc (λ n. total size) hc (λ n t seen xs a. each_spelled_sized f size h t seen xs a))

-- ---- plain fields

no_more : (n m : ℕ) → n ≡ m → n ≡ m + 0
no_more n m e = omega arith

pub nothing_sized : Sized nothing (λ _. 0)
nothing_sized t seen x a = omega arith

pub byte_sized : Sized byte (λ _. 1)
byte_sized t seen x a = omega arith

pub number_sized : (w : Width) (n : ℕ) → ((k : ℕ) → length (to_be_bytes w k) ≡ n) → Sized (number w) (λ _. n)
number_sized w n wide t seen x a = no_more _ n (wide x)

pub wide16 : (k : ℕ) → length (to_be_bytes w16 k) ≡ 2
wide16 k = refl

pub wide32 : (k : ℕ) → length (to_be_bytes w32 k) ≡ 4
wide32 k = refl

pub wide64 : (k : ℕ) → length (to_be_bytes w64 k) ≡ 8
wide64 k = refl

bytes_sized : (n : ℕ) → Sized (bytes n) (λ s. length s)
bytes_sized n t seen s a = no_more _ (length s) refl

text_sized : (w : Width) (n : ℕ) → ((k : ℕ) → length (to_be_bytes w k) ≡ n) → Sized (text w) (λ s. n + length s)
text_sized w n wide =
    checked_sized (sized w) (λ s. Some s.1) (λ (s : Text). (length s, s)) (λ s. n + length s.1)
    (then_sized (number w) bytes (λ _. n) (λ k s. length s) (number_sized w n wide) bytes_sized)

pub text_of_sized : {B : Type 0} (w : Width) (n : ℕ) → ((k : ℕ) → length (to_be_bytes w k) ≡ n)
    → (test : Text → Option B) (from : B → Text) → Sized (text_of w test from) (λ b. n + length (from b))
text_of_sized w n wide test from = checked_sized (text w) test from (λ s. n + length s) (text_sized w n wide)

pub id_sized : (form : Form) → Sized (id form) (λ s. 2 + length s)
id_sized form = text_of_sized w16 2 wide16 (id_in form) (λ u. u)

-- ---- references

known_cost : (n : ℕ) (b : Bool) → b ≡ true → 4 ≡ 4 + cond b 0 n
known_cost n true e = refl
known_cost n false e = absurd (cc e)

new_cost : (n : ℕ) (b : Bool) → b ≡ false → 4 + (2 + n) ≡ 4 + cond b 0 (2 + n + 0)
new_cost n true e = absurd (cc e)
new_cost n false e = omega arith

pub reference_sized : Sized reference (λ _. 4)
reference_sized t seen u a =
    by (number_of (uids t) u) (sym (a u) ∙ sym (is_some-number_of (uids t) u))
  where
    by : (o : Option ℕ) → list_any (same_id u) seen ≡ is_some o
        → length (reference_bytes t u o) ≡ 4 + uid_texts seen (u ∷ [])
    by (Some n) e = wide32 n ∙ known_cost (2 + length u + 0) _ e
    by None e =
        length-append (to_be_bytes w32 (length (uids t))) ((id Replica).spelled t u)
        ∙ ap₂ (λ (x y : ℕ). x + y) (wide32 (length (uids t)))
        (length-append (to_be_bytes w16 (length u)) u ∙ ap (λ (x : ℕ). x + length u) (wide16 (length u)))
        ∙ new_cost (length u) _ e
