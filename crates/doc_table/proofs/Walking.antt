-- The pairs of a table one after another: the id at a place is none of those before it.
use Rattle.std.proofs.Common.{◌≡◌, ℕ, ◌+◌, zero, suc, Bool, true, false, cond, ◌&&◌, T, List, [], ◌∷◌, ◌++◌, take, refl}
use Rattle.std.proofs.Common.{sym, ◌∙◌, ap, subst, add-one, Some, None, Ordering, Less, Equal, Greater}
use Rattle.std.proofs.lemmas.Bool.{and_parts}
use Rattle.std.proofs.lemmas.Float.{T_from_true}
use Rattle.std.specs.Prelude.{slice_get}
use Rattle.std.specs.Cmp.Lexicographic.{nat_list_cmp_total}
use Rattle.std.specs.FinMap.Entries.{below_all, find, is_sorted}
use Rattle.std.specs.Ordering.{is_eq, is_lt, ordering_reverse}
use Rattle.chunk_list.proofs.Sorted.{from_test}
use Rattle.u1_base.specs.Ids.{id_cmp, same_id}

-- an id that is above another is not that one
apart : (r : Ordering) → T (is_lt r) → is_eq (ordering_reverse r) ≡ false
apart Less p = refl
apart Equal p = absurd p
apart Greater p = absurd p

module _ {V : Type 0} where
  below_at : (x : List ℕ) (pairs : List (List ℕ × V)) (place : ℕ) (id : List ℕ) (value : V)
      → T (below_all id_cmp x pairs) → Some (id, value) ≡ slice_get pairs place → T (is_lt (id_cmp x id))
  below_at x [] place id value below is = absurd (cc)
  below_at x (e ∷ pairs) zero id value below is =
      let same : (id, value) ≡ e = cc in
      subst (λ (y : List ℕ × V). T (is_lt (id_cmp x y.0))) (sym same)
      (T_from_true _ (and_parts _ _ (from_test _ below)).0)
  below_at x (e ∷ pairs) (suc place) id value below is =
      below_at x pairs place id value (T_from_true _ (and_parts _ _ (from_test _ below)).1) is

  pub not_before : (pairs : List (List ℕ × V)) (place : ℕ) (id : List ℕ) (value : V) → T (is_sorted id_cmp pairs)
      → Some (id, value) ≡ slice_get pairs place → find id_cmp id (take place pairs) ≡ None
  not_before [] place id value sorted is = absurd (cc)
  not_before (e ∷ pairs) zero id value sorted is = refl
  not_before (e ∷ pairs) (suc place) id value sorted is =
      let other : same_id id e.0 ≡ false =
      ap is_eq (nat_list_cmp_total.antisymm id e.0)
      ∙ apart (id_cmp e.0 id)
      (below_at e.0 pairs place id value (T_from_true _ (and_parts _ _ (from_test _ sorted)).0) is) in
      ap (λ (b : Bool). cond b (Some e.1) (find id_cmp id (take place pairs))) other
      ∙ not_before pairs place id value (T_from_true _ (and_parts _ _ (from_test _ sorted)).1) is

  taken : (pairs : List (List ℕ × V)) (place : ℕ) (pair : List ℕ × V) → Some pair ≡ slice_get pairs place
      → take (suc place) pairs ≡ take place pairs ++ pair ∷ []
  taken [] place pair is = absurd (cc)
  taken (e ∷ pairs) zero pair is = let same : e ≡ pair = cc in ap (λ (y : List ℕ × V). y ∷ []) same
  taken (e ∷ pairs) (suc place) pair is = ap (λ (l : List (List ℕ × V)). e ∷ l) (taken pairs place pair is)

  -- one pair more
  pub taken_more : (pairs : List (List ℕ × V)) (place : ℕ) (pair : List ℕ × V) → Some pair ≡ slice_get pairs place
      → take (place + 1) pairs ≡ take place pairs ++ pair ∷ []
  taken_more pairs place pair is = ap (λ (n : ℕ). take n pairs) (add-one place) ∙ taken pairs place pair is
