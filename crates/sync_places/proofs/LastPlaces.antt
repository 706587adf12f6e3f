-- The last place of a document in a log: what one entry more changes, and which changes the log tells by it.
use Rattle.std.specs.Prelude.{◌≡◌, ℕ, zero, suc, ◌+◌, ◌<◌, ◌≤◌, ◌⊎◌, Bool, true, false, cond, not, ◌&&◌, ◌||◌, nat_lt}
use Rattle.std.specs.Prelude.{List, [], ◌∷◌}
use Rattle.std.specs.Prelude.{◌++◌, length, drop, Some, refl}
use Rattle.std.specs.List.{list_any, slice_get}
use Rattle.std.specs.Option.{option_map}
use Rattle.std.proofs.Common.{sym, ◌∙◌, ap, subst, inl, inr, arith, lt-ltb, ltb-true}
use Rattle.std.proofs.lemmas.Bool.{and_parts, and_from, cases_lt}
use Rattle.u1_base.specs.Ids.{same_id}
use Rattle.u1_base.proofs.SameIds.{same_id_is, is_same_id}
use Rattle.u1_base.proofs.Booleans.{not_both, not_true}
use Rattle.translog.specs.Entries.{change_at, changes_since, is_last, numbered, trans_at}
use Rattle.translog.specs.Log.{FitsLog}
use Rattle.translog.specs.declared.entry.Change.{Change}
use Rattle.translog.specs.declared.entry.Entry.{Entry}
use Rattle.conflicts.specs.Lists.{In}
use Rattle.conflicts.specs.State.{Text}
use Rattle.conflicts.proofs.Members.{In-filter, from_filter}
use Rattle.conflicts.specs.inner.Paired.{IsUnchangedSince}
use Rattle.sync_places.specs.inner.Last.{last_from, last_in}

-- ---- one entry more

last_from-push : (d : Text) (found n : ℕ) (es : List Entry) (e : Entry)
    → last_from d found n (es ++ e ∷ []) ≡ cond (same_id d e.doc) (n + length es) (last_from d found n es)
last_from-push d found n [] e = ap (λ k. cond (same_id d e.doc) k found) (plus_zero n)
  where
    plus_zero : (n : ℕ) → n ≡ n + 0
    plus_zero n = omega arith
last_from-push d found n (x ∷ es) e =
    last_from-push d (cond (same_id d x.doc) n found) (suc n) es e
    ∙ ap (λ k. cond (same_id d e.doc) k (last_from d (cond (same_id d x.doc) n found) (suc n) es))
    (plus_suc n (length es))
  where
    plus_suc : (n k : ℕ) → suc n + k ≡ n + suc k
    plus_suc n k = omega arith

pub last_in-push : (es : List Entry) (e : Entry) (d : Text)
    → last_in (es ++ e ∷ []) d ≡ cond (same_id d e.doc) (1 + length es) (last_in es d)
last_in-push es e d = last_from-push d 0 1 es e

-- ---- where the last entry stands

-- the entry at a place has the document, and no later one
pub record LastAt (es : List Entry) (d : Text) (place : ℕ) : Type 0 where
  pub entry : Entry
  pub stands : slice_get es place ≡ Some entry
  pub is : same_id d entry.doc ≡ true
  pub alone : list_any (λ e. same_id d e.doc) (drop (suc place) es) ≡ false

last_from-none : (d : Text) (found n : ℕ) (es : List Entry) → list_any (λ e. same_id d e.doc) es ≡ false
    → last_from d found n es ≡ found
last_from-none d found n [] none = refl
last_from-none d found n (e ∷ es) none =
    let parts = neither (same_id d e.doc) (list_any (λ x. same_id d x.doc) es) none in
    last_from-none d (cond (same_id d e.doc) n found) (suc n) es parts.1 ∙ ap (λ b. cond b n found) parts.0
  where
    neither : (p q : Bool) → (p || q) ≡ false → (p ≡ false) × (q ≡ false)
    neither true q e = absurd cc
    neither false q e = (refl, e)

last_from-at : (d : Text) (found n place : ℕ) (es : List Entry) → LastAt es d place → last_from d found n es ≡ n + place
last_from-at d found n place [] l = absurd (no_entry l.entry l.stands)
  where
    no_entry : (e : Entry) → slice_get [] place ≡ Some e → ⊥
    no_entry e is = cc
last_from-at d found n zero (x ∷ es) l =
    last_from-none d (cond (same_id d x.doc) n found) (suc n) es l.alone
    ∙ ap (λ b. cond b n found)
    (subst (λ (z : Entry). same_id d z.doc ≡ true) (sym (same_entry x l.entry l.stands)) l.is)
    ∙ plus_zero n
  where
    same_entry : (x y : Entry) → Some x ≡ Some y → x ≡ y
    same_entry x y e = cc

    plus_zero : (n : ℕ) → n ≡ n + 0
    plus_zero n = omega arith
last_from-at d found n (suc place) (x ∷ es) l =
    last_from-at d (cond (same_id d x.doc) n found) (suc n) place es
    (record { entry = l.entry; stands = l.stands; is = l.is; alone = l.alone })
    ∙ plus_suc n place
  where
    plus_suc : (n k : ℕ) → suc n + k ≡ n + suc k
    plus_suc n k = omega arith

last_from-finds : (d : Text) (found n : ℕ) (es : List Entry)
    → ((last_from d found n es ≡ found) × (list_any (λ e. same_id d e.doc) es ≡ false))
    ⊎ ((place : ℕ) × LastAt es d place)
last_from-finds d found n [] = inl (refl, refl)
last_from-finds d found n (x ∷ es) = elim (last_from-finds d (cond (same_id d x.doc) n found) (suc n) es) [
  | inr later ↦ inr (
    suc later.0,
    record {
      entry = later.1.entry;
      stands = later.1.stands;
      is = later.1.is;
      alone = later.1.alone;
    },
  )
  | inl none ↦ elim (same_id d x.doc) as
      (λ b. same_id d x.doc ≡ b → ((last_from d found n (x ∷ es) ≡ found)
      × (list_any (λ e. same_id d e.doc) (x ∷ es) ≡ false)) ⊎ ((place : ℕ) × LastAt (x ∷ es) d place)) [
        | true ↦ λ t. inr (0, record { entry = x; stands = refl; is = t; alone = none.1 })
        | false ↦ λ f. inl (
          none.0 ∙ ap (λ b. cond b n found) f,
          ap (λ b. b || list_any (λ e. same_id d e.doc) es) f ∙ none.1,
        )
      ] refl
]

place_within : (es : List Entry) (place : ℕ) (e : Entry) → slice_get es place ≡ Some e → suc place ≤ length es
place_within [] place e is = absurd (no_entry is)
  where
    no_entry : slice_get [] place ≡ Some e → ⊥
    no_entry is = cc
place_within (x ∷ es) zero e is = omega arith
place_within (x ∷ es) (suc place) e is = omega (arith, place_within es place e is)

-- the last place is within the log
pub last_in-within : (d : Text) (es : List Entry) → last_in es d ≤ length es
last_in-within d es = elim (last_from-finds d 0 1 es) [
  | inl none ↦ omega (arith, none.0)
  | inr at ↦
      let place : last_in es d ≡ 1 + at.0 = last_from-at d 0 1 at.0 es at.1 in
      omega (arith, place, place_within es at.0 at.1.entry at.1.stands)
]

-- ---- the changes of a log, by last places

from_numbered : (n : ℕ) (es : List Entry) (c : Change) → In c (numbered n es)
    → (place : ℕ) × (e : Entry) × (slice_get es place ≡ Some e) × (c ≡ change_at e (n + place))
from_numbered n [] c i = absurd i
from_numbered n (x ∷ es) c (inl e) = (0, x, refl, e ∙ ap (change_at x) (plus_zero n))
  where
    plus_zero : (n : ℕ) → n ≡ n + 0
    plus_zero n = omega arith
from_numbered n (x ∷ es) c (inr i) =
    let r = from_numbered (suc n) es c i in (suc r.0, r.1, r.2, r.3 ∙ ap (change_at r.1) (plus_suc n r.0))
  where
    plus_suc : (n k : ℕ) → suc n + k ≡ n + suc k
    plus_suc n k = omega arith

in_numbered : (n : ℕ) (es : List Entry) (place : ℕ) (e : Entry) → slice_get es place ≡ Some e
    → In (change_at e (n + place)) (numbered n es)
in_numbered n [] place e is = absurd (no_entry is)
  where
    no_entry : slice_get [] place ≡ Some e → ⊥
    no_entry is = cc
in_numbered n (x ∷ es) zero e is = inl (at (same_entry is) (plus_zero n))
  where
    same_entry : Some x ≡ Some e → e ≡ x
    same_entry e = cc

    plus_zero : (n : ℕ) → n + 0 ≡ n
    plus_zero n = omega arith

    at : e ≡ x → n + 0 ≡ n → change_at e (n + 0) ≡ change_at x n
    at p q = λ i. change_at (p i) (q i)
in_numbered n (x ∷ es) (suc place) e is =
    inr (subst (λ k. In (change_at e k) (numbered (suc n) es)) (plus_suc n place) (in_numbered (suc n) es place e is))
  where
    plus_suc : (n k : ℕ) → suc n + k ≡ n + suc k
    plus_suc n k = omega arith

-- what is told of a change: it is its document's last entry, after the generation
pub record ChangeIs (es : List Entry) (g : ℕ) (c : Change) : Type 0 where
  pub after : g < c.generation
  pub last : c.generation ≡ last_in es c.doc
  pub fits : FitsLog es (record { generation = c.generation; trans = Some c.trans })

one_more : (n : ℕ) → 1 + n ≡ suc n
one_more n = omega arith

pub change_is : (es : List Entry) (g : ℕ) (c : Change) → In c (changes_since es g) → ChangeIs es g c
change_is es g c i =
    let f = from_filter (λ c. nat_lt g c.generation && is_last es c) c (numbered 1 es) i in
    let at = from_numbered 1 es c f.0 in
    let parts = and_parts (nat_lt g c.generation) (is_last es c) f.1 in
    let generation : c.generation ≡ 1 + at.0 = ap (λ (z : Change). z.generation) at.3 in
    let doc : c.doc ≡ at.1.doc = ap (λ (z : Change). z.doc) at.3 in
    let trans : c.trans ≡ at.1.trans = ap (λ (z : Change). z.trans) at.3 in
    let place : c.generation ≡ suc at.0 = generation ∙ one_more at.0 in
    let alone : list_any (λ e. same_id c.doc e.doc) (drop (suc at.0) es) ≡ false =
    subst (λ (k : ℕ). list_any (λ e. same_id c.doc e.doc) (drop k es) ≡ false) place (not_true _ parts.1) in
    record {
      after = ltb-true g c.generation parts.0;
      last = generation ∙ sym (last_from-at c.doc 0 1 at.0 es (record {
        entry = at.1;
        stands = at.2;
        is = is_same_id c.doc at.1.doc doc;
        alone = alone;
      }));
      fits = inr (
        subst (λ (k : ℕ). k ≤ length es) (sym place) (place_within es at.0 at.1 at.2),
        ap (trans_at es) place ∙ ap (option_map (λ e. e.trans)) at.2 ∙ ap Some (sym trans),
      );
    }

-- and each document whose last entry is after the generation is told
pub change_of : (es : List Entry) (g : ℕ) (d : Text) → g < last_in es d
    → (c : Change) × In c (changes_since es g) × (c.doc ≡ d) × (c.generation ≡ last_in es d)
change_of es g d after = elim (last_from-finds d 0 1 es) [
  | inl none ↦ absurd (omega (arith, none.0, after))
  | inr at ↦
      let e = at.1.entry in
      let doc : d ≡ e.doc = same_id_is d e.doc at.1.is in
      let place : last_in es d ≡ 1 + at.0 = last_from-at d 0 1 at.0 es at.1 in (
        change_at e (1 + at.0),
        In-filter (λ c. nat_lt g c.generation && is_last es c) (change_at e (1 + at.0)) (numbered 1 es)
            (in_numbered 1 es at.0 e at.1.stands)
            (and_from (nat_lt g (1 + at.0)) _ (lt-ltb g (1 + at.0) (omega (arith, after, place)))
            (ap not (subst (λ (k : ℕ). list_any (λ x. same_id e.doc x.doc) (drop k es) ≡ false)
            (sym (one_more at.0))
            (subst (λ (z : Text). list_any (λ x. same_id z x.doc) (drop (suc at.0) es) ≡ false) doc at.1.alone)))),
        sym doc,
        sym place,
      )
]

-- ---- a document that is not in the log, or did not change since a generation

pub none_last : (es : List Entry) (d : Text) → last_in es d ≡ 0 → list_any (λ e. same_id d e.doc) es ≡ false
none_last es d zero_there = elim (last_from-finds d 0 1 es) [
  | inl none ↦ none.1
  | inr at ↦
      let place : last_in es d ≡ 1 + at.0 = last_from-at d 0 1 at.0 es at.1 in
      absurd (omega (arith, place, zero_there))
]

or_first : (p q : Bool) → p ≡ true → (p || q) ≡ true
or_first true q e = refl
or_first false q e = absurd cc

or_second : (p q : Bool) → q ≡ true → (p || q) ≡ true
or_second true q e = refl
or_second false q e = e

any_at : (p : Entry → Bool) (es : List Entry) (place : ℕ) (e : Entry) → slice_get es place ≡ Some e → p e ≡ true
    → list_any p es ≡ true
any_at p [] place e is t = absurd (no_entry is)
  where
    no_entry : slice_get [] place ≡ Some e → ⊥
    no_entry is = cc
any_at p (x ∷ es) zero e is t =
    or_first (p x) (list_any p es) (subst (λ (z : Entry). p z ≡ true) (sym (same_entry is)) t)
  where
    same_entry : Some x ≡ Some e → x ≡ e
    same_entry is = cc
any_at p (x ∷ es) (suc place) e is t = or_second (p x) (list_any p es) (any_at p es place e is t)

any_after : (p : Entry → Bool) (g : ℕ) (es : List Entry) (place : ℕ) (e : Entry) → slice_get es place ≡ Some e
    → p e ≡ true → g ≤ place → list_any p (drop g es) ≡ true
any_after p zero es place e is t low = any_at p es place e is t
any_after p (suc g) [] place e is t low = absurd (no_entry is)
  where
    no_entry : slice_get [] place ≡ Some e → ⊥
    no_entry is = cc
any_after p (suc g) (x ∷ es) zero e is t low = absurd (omega (arith, low))
any_after p (suc g) (x ∷ es) (suc place) e is t low = any_after p g es place e is t (omega (arith, low))

-- its last entry is at or before the generation
pub last_before : (es : List Entry) (g : ℕ) (d : Text) → IsUnchangedSince es g d
    → (1 ≤ last_in es d) × (last_in es d ≤ g)
last_before es g d h = elim (last_from-finds d 0 1 es) [
  | inl none ↦ absurd (not_both (list_any (λ e. same_id d e.doc) es) h.there none.1)
  | inr at ↦
      let place : last_in es d ≡ 1 + at.0 = last_from-at d 0 1 at.0 es at.1 in
      elim (cases_lt at.0 g) [
        | inl before ↦ (omega (arith, place), omega (arith, place, before))
        | inr later ↦ absurd (not_both (list_any (λ e. same_id d e.doc) (drop g es))
            (any_after (λ e. same_id d e.doc) g es at.0 at.1.entry at.1.stands at.1.is later) h.not_later)
      ]
]
