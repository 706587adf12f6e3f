-- Acceptances that wait, sorted by their documents and applied one after the other, are those of each document.
use Rattle.std.proofs.Common.{◌≡◌, ◌⊎◌, ◌&&◌, Bool, true, false, cond, not, List, [], ◌∷◌, ◌++◌, map, filter, refl, sym}
use Rattle.std.proofs.Common.{ap, ◌∙◌}
use Rattle.std.proofs.Common.{Ordering, Less, Equal, Greater, Option, Result, Ok, Err, OnOk, inl, inr}
use Rattle.std.specs.List.Sorted.{IsStableBy, ties}
use Rattle.std.specs.Ordering.{is_eq, is_lt, ordering_reverse}
use Rattle.std.specs.FinMap.Entries.{find}
use Rattle.std.proofs.lemmas.Cmp.{nat_list_cmp_total}
use Rattle.u1_base.specs.Ids.{id_cmp, same_id}
use Rattle.u1_base.proofs.SameIds.{same_id_is}
use Rattle.conflicts.specs.Document.{Document, document_after, document_after_all}
use Rattle.conflicts.specs.State.{Accepted, Gone, State, Step, Text, accepts_in, after}
use Rattle.conflicts.specs.declared.accept.Accept.{Accept}
use Rattle.conflicts.specs.declared.moves.Move.{Move}
use Rattle.replica_state.specs.Held.{Names}
use Rattle.replica_state.specs.Indexes.{with_indexes}
use Rattle.replica_state.specs.Waiting.{accepting, accepts_of, with_accepted}
use Rattle.replica_state.specs.declared.waiting.Waiting.{Waiting}

-- ---- the sort keeps those of a document in their order

abbrev pub before : Waiting → Waiting → Bool
before x y = is_lt (id_cmp x.doc y.doc)

abbrev of : Text → Waiting → Bool
of d w = same_id d w.doc

tied_by : (o : Ordering) → (not (is_lt o) && not (is_lt (ordering_reverse o))) ≡ is_eq o
tied_by Less = refl
tied_by Equal = refl
tied_by Greater = refl

tied : (x y : Waiting) → ties before x y ≡ same_id x.doc y.doc
tied x y =
    ap (λ o. not (is_lt (id_cmp x.doc y.doc)) && not (is_lt o)) (nat_list_cmp_total.antisymm y.doc x.doc)
    ∙ tied_by (id_cmp x.doc y.doc)

some_or_none : (d : Text) (ws : List Waiting) → ((w : Waiting) × (of d w ≡ true)) ⊎ (filter (of d) ws ≡ [])
some_or_none d [] = inr refl
some_or_none d (w ∷ ws) = elim (is_true (of d w)) [
  | inl is ↦ inl (w, is)
  | inr other ↦ elim (some_or_none d ws) [
    | inl found ↦ inl found
    | inr none ↦ inr (ap (λ b. cond b (w ∷ filter (of d) ws) (filter (of d) ws)) other ∙ none)
  ]
]
  where
    is_true : (b : Bool) → (b ≡ true) ⊎ (b ≡ false)
    is_true true = inl refl
    is_true false = inr refl

pub same_accepts : (d : Text) (xs ys : List Waiting) → IsStableBy before xs ys → accepts_of d ys ≡ accepts_of d xs
same_accepts d xs ys stable = ap (map (λ (w : Waiting). w.accept.value)) (elim (some_or_none d ys) [
  | inl found ↦ kept found.0 found.1
  | inr none ↦ elim (some_or_none d xs) [
    | inl found ↦ kept found.0 found.1
    | inr nothing ↦ none ∙ sym nothing
  ]
])
  where
    tests : (w : Waiting) → of d w ≡ true → ties before w ≡ of d
    tests w e = λ i y. (tied w y ∙ ap (λ u. same_id u y.doc) (sym (same_id_is d w.doc e))) i

    kept : (w : Waiting) → of d w ≡ true → filter (of d) ys ≡ filter (of d) xs
    kept w e =
        ap (λ p. filter p ys) (sym (tests w e)) ∙ stable w ∙ ap (λ p. filter p xs) (tests w e)

-- ---- one more, and one less

accepts_of-last : (d : Text) (ws : List Waiting) (w : Waiting)
    → accepts_of d (ws ++ w ∷ []) ≡ accepts_of d ws ++ cond (of d w) (w.accept.value ∷ []) []
accepts_of-last d [] w = alone (of d w)
  where
    alone : (b : Bool) → map (λ (v : Waiting). v.accept.value) (cond b (w ∷ []) []) ≡ cond b (w.accept.value ∷ []) []
    alone true = refl
    alone false = refl
accepts_of-last d (v ∷ ws) w = behind (of d v) (accepts_of-last d ws w)
  where
    behind : (b : Bool) → accepts_of d (ws ++ w ∷ []) ≡ accepts_of d ws ++ cond (of d w) (w.accept.value ∷ []) []
        → map (λ (v : Waiting). v.accept.value)
        (cond b (v ∷ filter (of d) (ws ++ w ∷ [])) (filter (of d) (ws ++ w ∷ [])))
        ≡ map (λ (v : Waiting). v.accept.value) (cond b (v ∷ filter (of d) ws) (filter (of d) ws))
        ++ cond (of d w) (w.accept.value ∷ []) []
    behind true e = ap (λ later. v.accept.value ∷ later) e
    behind false e = e

document_after_all-append : (d : Document) (xs ys : List Accept)
    → document_after_all d (xs ++ ys) ≡ document_after_all (document_after_all d xs) ys
document_after_all-append d [] ys = refl
document_after_all-append d (x ∷ xs) ys = document_after_all-append (document_after d x) xs ys

-- a step that accepts is one that keeps the place in the log, and an acceptance more that waits
pub waits_more : (s t : State) (ws : List Waiting) (w : Waiting) (names : Names) (trans : Text) (moved : Option Move)
    → t ≡ after s (Gone w.doc trans moved)
    → with_indexes (with_accepted t (ws ++ w ∷ [])) names
    ≡ after (with_indexes (with_accepted s ws) names) (Accepted w.doc w.accept.value trans moved)
waits_more s t ws w names trans moved is =
    ap (λ (z : State). with_indexes (with_accepted z (ws ++ w ∷ [])) names) is
    ∙ (λ i. record {
      name = s.name;
      uid = s.uid;
      document = λ d. (ap (document_after_all (s.document d)) (accepts_of-last d ws w)
          ∙ document_after_all-append (s.document d) (accepts_of d ws) (cond (of d w) (w.accept.value ∷ []) [])) i;
      log = (after s (Gone w.doc trans moved)).log;
      position = (after s (Gone w.doc trans moved)).position;
      index = λ n. find id_cmp n names;
    })

-- one acceptance, or none
pub accepts_one : (b : Bool) (a : Accept) (d : Document)
    → cond b (document_after d a) d ≡ document_after_all d (cond b (a ∷ []) [])
accepts_one true a d = refl
accepts_one false a d = refl

-- a step that accepts nothing leaves those that wait as they are
pub kept_waiting : {E : Type 0} (r : Result (Unit {0}) E) (s t : State) (x : Step) (ws : List Waiting)
    → ((d : Text) → accepts_in d x ≡ []) → OnOk r (t ≡ after s x)
    → OnOk r (with_accepted t ws ≡ after (with_accepted s ws) x)
kept_waiting (Ok u) s t x ws none is =
    ap (λ (z : State). with_accepted z ws) is
    ∙ (λ i. record {
      name = s.name;
      uid = s.uid;
      document = λ d. (ap (λ l. document_after_all (document_after_all (s.document d) l) (accepts_of d ws)) (none d)
          ∙ sym (ap (document_after_all (document_after_all (s.document d) (accepts_of d ws))) (none d))) i;
      log = (after s x).log;
      position = (after s x).position;
      index = (after s x).index;
    })
kept_waiting (Err why) s t x ws none is = tt

-- the first is applied, the others wait still
pub applied_first : (s t : State) (w : Waiting) (ws : List Waiting)
    → t ≡ accepting s (λ d. cond (same_id d w.doc) (w.accept.value ∷ []) [])
    → with_accepted t ws ≡ with_accepted s (w ∷ ws)
applied_first s t w ws is =
    ap (λ (z : State). with_accepted z ws) is
    ∙ (λ i. record {
      name = s.name;
      uid = s.uid;
      document = λ d. first d (of d w) i;
      log = s.log;
      position = s.position;
      index = s.index;
    })
  where
    first : (d : Text) (b : Bool)
        → document_after_all (document_after_all (s.document d) (cond b (w.accept.value ∷ []) [])) (accepts_of d ws)
        ≡ document_after_all (s.document d)
        (map (λ (v : Waiting). v.accept.value) (cond b (w ∷ filter (of d) ws) (filter (of d) ws)))
    first d true = refl
    first d false = refl

-- what is sorted waits as before
pub sorted_waits : (s : State) (xs ys : List Waiting) → ((d : Text) → accepts_of d ys ≡ accepts_of d xs)
    → with_accepted s ys ≡ with_accepted s xs
sorted_waits s xs ys same = λ i. accepting s (λ d. same d i)
