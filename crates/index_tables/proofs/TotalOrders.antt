-- The orders of keys and of entries are total, and what ties is the same.
use Rattle.std.proofs.Common.{◌≡◌, ℕ, List, [], ◌∷◌, refl, ◌∙◌, ap, subst, Ordering, Less, Equal, Greater}
use Rattle.std.specs.Cmp.{IsTotalOrder, on_total}
use Rattle.std.specs.Cmp.Lexicographic.{slice_cmp, lists_total, nat_list_cmp_total}
use Rattle.std.specs.FinMap.{slice_cmp-IsAntisymmetric, nat_cmp-IsAntisymmetric}
use Rattle.std.specs.Ordering.{nat_cmp, ordering_then}
use Rattle.index_tables.specs.Order.{Entry, key_cmp, entry_cmp}

pub key_total : IsTotalOrder key_cmp
key_total = lists_total nat_list_cmp_total

then_Equal : (r : Ordering) → ordering_then r Equal ≡ r
then_Equal Less = refl
then_Equal Equal = refl
then_Equal Greater = refl

-- an entry as a list of two keys
abbrev listed : Entry → List (List (List ℕ))
listed p = p.0 ∷ (p.1 ∷ []) ∷ []

as_lists : (p q : Entry) → slice_cmp key_cmp (listed p) (listed q) ≡ entry_cmp p q
as_lists p q = ap (ordering_then (key_cmp p.0 q.0))
    (then_Equal (ordering_then (slice_cmp nat_cmp p.1 q.1) Equal) ∙ then_Equal (slice_cmp nat_cmp p.1 q.1))

pub entry_total : IsTotalOrder entry_cmp
entry_total = subst IsTotalOrder (λ i p q. as_lists p q i) (on_total listed (lists_total key_total))

pub key_same : (a b : List (List ℕ)) → key_cmp a b ≡ Equal → a ≡ b
key_same = slice_cmp-IsAntisymmetric (slice_cmp-IsAntisymmetric nat_cmp-IsAntisymmetric)

pub entry_same : (p q : Entry) → entry_cmp p q ≡ Equal → p ≡ q
entry_same p q tie =
    elim (key_cmp p.0 q.0) as (λ r. key_cmp p.0 q.0 ≡ r → ordering_then r (slice_cmp nat_cmp p.1 q.1) ≡ Equal → p ≡ q) [
      | Less ↦ λ k e. absurd (cc)
      | Equal ↦ λ k e i. (key_same p.0 q.0 k i, slice_cmp-IsAntisymmetric nat_cmp-IsAntisymmetric p.1 q.1 e i)
      | Greater ↦ λ k e. absurd (cc)
    ] refl tie
