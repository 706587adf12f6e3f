-- The order of ids and the test of their being the same, as proofs cite them.
use Rattle.std.proofs.Common.{◌≡◌, ℕ, true, List, refl, ◌∙◌, ap, subst, Ordering, Less, Equal, Greater}
use Rattle.std.specs.Ordering.{is_eq, ordering_reverse}
use Rattle.std.specs.Cmp.{Equal-is, tied_itself}
use Rattle.std.specs.Cmp.Lexicographic.{nat_list_cmp_total}
use Rattle.std.specs.FinMap.{slice_cmp-IsAntisymmetric, nat_cmp-IsAntisymmetric}
use Rattle.u1_base.specs.Ids.{id_cmp, same_id}

-- an answer that tests as equal is Equal
pub equal_is : (r : Ordering) → is_eq r ≡ true → r ≡ Equal
equal_is r = (Equal-is r).0

-- ids that tie are one
pub id_tied : (a b : List ℕ) → id_cmp a b ≡ Equal → a ≡ b
id_tied = slice_cmp-IsAntisymmetric nat_cmp-IsAntisymmetric

pub id_ties_itself : (a : List ℕ) → id_cmp a a ≡ Equal
id_ties_itself = tied_itself nat_list_cmp_total

pub same_id_is : (wanted id : List ℕ) → same_id wanted id ≡ true → wanted ≡ id
same_id_is wanted id h = id_tied wanted id (equal_is (id_cmp wanted id) h)

pub same_id-itself : (id : List ℕ) → same_id id id ≡ true
same_id-itself id = ap is_eq (id_ties_itself id)

pub is_same_id : (wanted id : List ℕ) → wanted ≡ id → same_id wanted id ≡ true
is_same_id wanted id same = subst (λ (x : List ℕ). same_id wanted x ≡ true) same (same_id-itself wanted)

-- it does not matter which stands first
pub same_id-comm : (a b : List ℕ) → same_id a b ≡ same_id b a
same_id-comm a b = ap is_eq (nat_list_cmp_total.antisymm a b) ∙ reversed (id_cmp b a)
  where
    reversed : (r : Ordering) → is_eq (ordering_reverse r) ≡ is_eq r
    reversed Less = refl
    reversed Equal = refl
    reversed Greater = refl
