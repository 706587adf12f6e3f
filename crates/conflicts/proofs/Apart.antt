-- Lists of members of which no two are ordered by their clocks.
use Rattle.std.specs.Prelude.{◌≡◌, ℕ, zero, suc, Bool, true, false, cond, not, ◌&&◌, List, [], ◌∷◌, ◌++◌, filter}
use Rattle.std.specs.Prelude.{slice_get, Some, refl}
use Rattle.std.specs.List.{list_any, list_all}
use Rattle.std.proofs.Common.{sym, ◌∙◌, ap, subst, inl, inr}
use Rattle.std.proofs.lemmas.Bool.{and_parts, and_from}
use Rattle.std.proofs.lemmas.Option.{none-some, same_Some}
use Rattle.vector_rev.specs.Clock.{Clock, covers, dominates}
use Rattle.vector_rev.specs.Compare.{same}
use Rattle.vector_rev.proofs.ClockLaws.{same_decides, covers-itself}
use Rattle.conflicts.specs.Lists.{In}
use Rattle.conflicts.specs.Document.{has_rev, others}
use Rattle.conflicts.specs.Kept.{are_apart, all_apart}
use Rattle.conflicts.specs.Laws.{each_once}
use Rattle.conflicts.specs.declared.member.Member.{Member}
use Rattle.u1_base.proofs.Booleans.{none_true, not_both, not_true}
use Rattle.conflicts.proofs.Members.{none_passes, passes_none, from_filter, filter_whole, filter_nothing}

pub same_itself : (c : Clock) → same c c ≡ true
same_itself c = (same_decides c c).1 refl

-- a clock that another one does not cover is another clock
pub not_covered_not_same : (x y : Clock) → covers x y ≡ false → same x y ≡ false
not_covered_not_same x y h =
    none_true _ (λ e. not_both _ (subst (λ z. covers x z ≡ true) ((same_decides x y).0 e) (covers-itself x)) h)

-- ---- lists

module _ {A : Type 0} where
  pub all_at : (p : A → Bool) (x : A) (xs : List A) → list_all p xs ≡ true → In x xs → p x ≡ true
  all_at p x [] h i = absurd i
  all_at p x (y ∷ ys) h (inl e) = ap p e ∙ (and_parts (p y) (list_all p ys) h).0
  all_at p x (y ∷ ys) h (inr i) = all_at p x ys (and_parts (p y) (list_all p ys) h).1 i

  pub In-get : (xs : List A) (i : ℕ) (x : A) → slice_get xs i ≡ Some x → In x xs
  In-get [] i x e = absurd (none-some x e)
  In-get (y ∷ ys) zero x e = inl (sym (same_Some y x e))
  In-get (y ∷ ys) (suc i) x e = inr (In-get ys i x e)

  list_all-filter : (p q : A → Bool) (xs : List A) → list_all p xs ≡ true → list_all p (filter q xs) ≡ true
  list_all-filter p q [] h = refl
  list_all-filter p q (x ∷ xs) h =
      let both = and_parts (p x) (list_all p xs) h in
      elim (q x) as (λ b. list_all p (cond b (x ∷ filter q xs) (filter q xs)) ≡ true) [
        | true ↦ and_from (p x) _ both.0 (list_all-filter p q xs both.1)
        | false ↦ list_all-filter p q xs both.1
      ]

  list_all-push : (p : A → Bool) (xs : List A) (a : A) → list_all p xs ≡ true → p a ≡ true
      → list_all p (xs ++ a ∷ []) ≡ true
  list_all-push p [] a h new = and_from (p a) true new refl
  list_all-push p (x ∷ xs) a h new =
      let both = and_parts (p x) (list_all p xs) h in
      and_from (p x) _ both.0 (list_all-push p xs a both.1 new)

-- ---- two members

apart_swap : (m n : Member) → are_apart m n ≡ true → are_apart n m ≡ true
apart_swap m n h =
    let both = and_parts (not (covers m.rev n.rev)) (not (covers n.rev m.rev)) h in
    and_from (not (covers n.rev m.rev)) (not (covers m.rev n.rev)) both.1 both.0

apart_other : (m n : Member) → are_apart m n ≡ true → same m.rev n.rev ≡ false
apart_other m n h =
    not_covered_not_same m.rev n.rev (not_true _ (and_parts (not (covers m.rev n.rev)) (not (covers n.rev m.rev)) h).0)

apart_not_newer : (m n : Member) → are_apart m n ≡ true → dominates m.rev n.rev ≡ false
apart_not_newer m n h =
    ap (λ b. b && not (covers n.rev m.rev))
    (not_true _ (and_parts (not (covers m.rev n.rev)) (not (covers n.rev m.rev)) h).0)

not_newer_itself : (c : Clock) → dominates c c ≡ false
not_newer_itself c = ap (λ b. b && not b) (covers-itself c)

-- ---- the members of a list

head_apart : (x : Member) (ms : List Member) → all_apart (x ∷ ms) ≡ true → (m : Member) → In m ms → are_apart x m ≡ true
head_apart x ms h m i = all_at (are_apart x) m ms (and_parts (list_all (are_apart x) ms) (all_apart ms) h).0 i

tail_apart : (x : Member) (ms : List Member) → all_apart (x ∷ ms) ≡ true → all_apart ms ≡ true
tail_apart x ms h = (and_parts (list_all (are_apart x) ms) (all_apart ms) h).1

-- members at two places
places_apart : (ms : List Member) → all_apart ms ≡ true → (i j : ℕ) (m n : Member) → slice_get ms i ≡ Some m
    → slice_get ms j ≡ Some n → (i ≡ j → ⊥) → are_apart m n ≡ true
places_apart [] h i j m n p q other = absurd (none-some m p)
places_apart (x ∷ ms) h zero zero m n p q other = absurd (other refl)
places_apart (x ∷ ms) h zero (suc j) m n p q other =
    subst (λ (y : Member). are_apart y n ≡ true) (same_Some x m p) (head_apart x ms h n (In-get ms j n q))
places_apart (x ∷ ms) h (suc i) zero m n p q other =
    apart_swap n m (subst (λ (y : Member). are_apart y m ≡ true) (same_Some x n q)
    (head_apart x ms h m (In-get ms i m p)))
places_apart (x ∷ ms) h (suc i) (suc j) m n p q other =
    places_apart ms (tail_apart x ms h) i j m n p q (λ e. other (ap suc e))

pub other_clock : (ms : List Member) → all_apart ms ≡ true → (i j : ℕ) (m n : Member) → slice_get ms i ≡ Some m
    → slice_get ms j ≡ Some n → (i ≡ j → ⊥) → same m.rev n.rev ≡ false
other_clock ms h i j m n p q other = apart_other m n (places_apart ms h i j m n p q other)

-- none is newer than another one
pub ordered_not : (ms : List Member) (n m : Member) → all_apart ms ≡ true → In n ms → In m ms
    → dominates n.rev m.rev ≡ false
ordered_not [] n m h i j = absurd i
ordered_not (x ∷ ms) n m h (inl p) (inl q) =
    ap (λ (k : Member). dominates k.rev m.rev) p ∙ ap (λ (k : Member). dominates x.rev k.rev) q ∙ not_newer_itself x.rev
ordered_not (x ∷ ms) n m h (inl p) (inr j) =
    ap (λ (k : Member). dominates k.rev m.rev) p ∙ apart_not_newer x m (head_apart x ms h m j)
ordered_not (x ∷ ms) n m h (inr i) (inl q) =
    ap (λ (k : Member). dominates n.rev k.rev) q ∙ apart_not_newer n x (apart_swap x n (head_apart x ms h n i))
ordered_not (x ∷ ms) n m h (inr i) (inr j) = ordered_not ms n m (tail_apart x ms h) i j

pub none_newer_than : (ms : List Member) → all_apart ms ≡ true → (m : Member) → In m ms
    → list_any (λ n. dominates n.rev m.rev) ms ≡ false
none_newer_than ms h m i = passes_none (λ n. dominates n.rev m.rev) ms (λ n j. ordered_not ms n m h j i)

-- no two have one clock
pub apart_once : (ms : List Member) → all_apart ms ≡ true → each_once ms ≡ true
apart_once [] h = refl
apart_once (m ∷ ms) h =
    and_from (not (has_rev ms m.rev)) (each_once ms)
    (ap not (passes_none (λ n. same n.rev m.rev) ms (λ n i. apart_other n m (apart_swap m n (head_apart m ms h n i)))))
    (apart_once ms (tail_apart m ms h))

-- one of them alone has its clock
pub one_at : (ms : List Member) (place : ℕ) (c : Member) → all_apart ms ≡ true → slice_get ms place ≡ Some c
    → filter (λ m. same m.rev c.rev) ms ≡ c ∷ []
one_at [] place c h e = absurd (none-some c e)
one_at (x ∷ ms) zero c h e =
    subst (λ (y : Member). filter (λ m. same m.rev y.rev) (x ∷ ms) ≡ y ∷ []) (same_Some x c e)
    (ap (λ b. cond b (x ∷ filter (λ m. same m.rev x.rev) ms) (filter (λ m. same m.rev x.rev) ms)) (same_itself x.rev)
    ∙ ap (λ r. x ∷ r) (filter_nothing (λ m. same m.rev x.rev) ms
    (λ m i. apart_other m x (apart_swap x m (head_apart x ms h m i)))))
one_at (x ∷ ms) (suc place) c h e =
    ap (λ b. cond b (x ∷ filter (λ m. same m.rev c.rev) ms) (filter (λ m. same m.rev c.rev) ms))
    (apart_other x c (head_apart x ms h c (In-get ms place c e)))
    ∙ one_at ms place c (tail_apart x ms h) e

-- the list without the value at a place
abbrev pub without : {A : Type 0} → ℕ → List A → List A
without place [] = []
without zero (x ∷ xs) = xs
without (suc place) (x ∷ xs) = x ∷ without place xs

pub others_at : (ms : List Member) (place : ℕ) (c : Member) → all_apart ms ≡ true → slice_get ms place ≡ Some c
    → others c.rev ms ≡ without place ms
others_at [] place c h e = refl
others_at (x ∷ ms) zero c h e =
    subst (λ (y : Member). others y.rev (x ∷ ms) ≡ ms) (same_Some x c e)
    (ap (λ b. cond (not b) (x ∷ others x.rev ms) (others x.rev ms)) (same_itself x.rev)
    ∙ filter_whole (λ m. not (same m.rev x.rev)) ms
    (λ m i. ap not (apart_other m x (apart_swap x m (head_apart x ms h m i)))))
others_at (x ∷ ms) (suc place) c h e =
    ap (λ b. cond (not b) (x ∷ others c.rev ms) (others c.rev ms))
    (apart_other x c (head_apart x ms h c (In-get ms place c e)))
    ∙ ap (λ r. x ∷ r) (others_at ms place c (tail_apart x ms h) e)

-- ---- one more member

all_apart-filter : (q : Member → Bool) (ms : List Member) → all_apart ms ≡ true → all_apart (filter q ms) ≡ true
all_apart-filter q [] h = refl
all_apart-filter q (m ∷ ms) h =
    let both = and_parts (list_all (are_apart m) ms) (all_apart ms) h in
    elim (q m) as (λ b. all_apart (cond b (m ∷ filter q ms) (filter q ms)) ≡ true) [
      | true ↦ and_from _ (all_apart (filter q ms)) (list_all-filter (are_apart m) q ms both.0)
          (all_apart-filter q ms both.1)
      | false ↦ all_apart-filter q ms both.1
    ]

all_apart-push : (ms : List Member) (a : Member) → all_apart ms ≡ true
    → ((m : Member) → In m ms → are_apart m a ≡ true) → all_apart (ms ++ a ∷ []) ≡ true
all_apart-push [] a h new = refl
all_apart-push (m ∷ ms) a h new =
    let both = and_parts (list_all (are_apart m) ms) (all_apart ms) h in
    and_from _ (all_apart (ms ++ a ∷ [])) (list_all-push (are_apart m) ms a both.0 (new m (inl refl)))
    (all_apart-push ms a both.1 (λ n i. new n (inr i)))

-- neither covers the other where the one is not newer than the other, which does not cover it
apart_from : (x y : Bool) → (x && not y) ≡ false → not y ≡ true → (not x && not y) ≡ true
apart_from true true p q = q
apart_from true false p q = sym p
apart_from false true p q = q
apart_from false false p q = refl

-- what is left beside one that is not older stays so
pub apart_with : (ms : List Member) (a : Member) → all_apart ms ≡ true
    → list_any (λ m. dominates m.rev a.rev) ms ≡ false
    → all_apart (filter (λ m. not (covers a.rev m.rev)) ms ++ a ∷ []) ≡ true
apart_with ms a h none =
    all_apart-push (filter (λ m. not (covers a.rev m.rev)) ms) a (all_apart-filter (λ m. not (covers a.rev m.rev)) ms h)
    (λ m i.
    let f = from_filter (λ m. not (covers a.rev m.rev)) m ms i in
    apart_from (covers m.rev a.rev) (covers a.rev m.rev) (none_passes (λ m. dominates m.rev a.rev) m ms none f.0) f.1)
