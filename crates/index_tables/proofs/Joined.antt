-- The pairs of two lists in one.
use Rattle.std.proofs.Common.{◌≡◌, ◌||◌, ℕ, Bool, true, false, suc, List, [], ◌∷◌, ◌++◌, get_or}
use Rattle.std.proofs.Common.{ap, refl, ◌∙◌, arith}
use Rattle.std.proofs.lemmas.List.Elements.{All-append}
use Rattle.std.proofs.lemmas.List.Folds.{list_any-append, list_any_at}
use Rattle.std.proofs.lemmas.List.Kept.{AllPairs-cons}
use Rattle.std.specs.Cmp.{eq_by_cmp_equiv}
use Rattle.index_tables.specs.Entries.{AreDistinct, AreNew, HoldsBoth, has, same}
use Rattle.index_tables.specs.Order.{Entry}
use Rattle.index_tables.proofs.Laws.{same_self}
use Rattle.index_tables.proofs.TotalOrders.{entry_total}

-- a list of both holds those of both
pub joined : (entries both others : List Entry) → both ≡ entries ++ others → HoldsBoth entries others both
joined entries both others is p = ap (λ (l : List Entry). has l p) is ∙ list_any-append (same p) entries others

neither : (a b : Bool) → (a || b) ≡ false → (a ≡ false) × (b ≡ false)
neither true b none = absurd (cc)
neither false b none = (refl, none)

-- new entries beside distinct ones are distinct together
pub distinct_joined : (entries others : List Entry) → AreDistinct entries → AreDistinct others
    → AreNew entries others → AreDistinct (entries ++ others)
distinct_joined [] others distinct also fresh = also
distinct_joined (e ∷ entries) others distinct also fresh =
    AllPairs-cons (λ p q. same p q ≡ false) e (entries ++ others)
    (All-append (λ q. same e q ≡ false) entries others
    (λ k d lt. distinct 0 (suc k) d (omega arith) (omega arith))
    (λ k d lt.
    (eq_by_cmp_equiv entry_total).symm e (get_or others k d)
    ∙ (neither (same (get_or others k d) e) (has entries (get_or others k d))
    (fresh (get_or others k d)
    (list_any_at (same (get_or others k d)) others k d lt (same_self (get_or others k d))))).0))
    (distinct_joined entries others (λ i j d lt le. distinct (suc i) (suc j) d (omega arith) (omega arith)) also
    (λ p there. (neither (same p e) (has entries p) (fresh p there)).1))
