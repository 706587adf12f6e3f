-- The same pairs in another order.
use Rattle.std.proofs.Common.{◌≡◌, ◌||◌, Bool, List, sym, ap, ◌∙◌}
use Rattle.std.specs.Cmp.{eq_by_cmp_equiv}
use Rattle.std.specs.List.Sorted.{IsPermutation}
use Rattle.std.proofs.lemmas.List.Sorted.{IsPermutation-map, list_any-IsPermutation}
use Rattle.std.proofs.lemmas.Map.Keys.{IsDistinct-IsPermutation, IsDistinct-from_apart, apart_from_distinct}
use Rattle.index_tables.specs.Entries.{AreDistinct, AreNew, HoldsBoth, has, same}
use Rattle.index_tables.specs.Order.{Entry}
use Rattle.index_tables.specs.Seen.{entry_of, seen}
use Rattle.index_tables.specs.declared.pair.Pair.{Pair}
use Rattle.index_tables.proofs.TotalOrders.{entry_total}

module _ (pairs mixed : List Pair) (p : IsPermutation pairs mixed) where
  entries : IsPermutation (seen pairs) (seen mixed)
  entries = IsPermutation-map entry_of pairs mixed p

  has_mixed : (e : Entry) → has (seen pairs) e ≡ has (seen mixed) e
  has_mixed e = list_any-IsPermutation (same e) (seen pairs) (seen mixed) entries

  pub mixed_distinct : AreDistinct (seen pairs) → AreDistinct (seen mixed)
  mixed_distinct distinct i j d lt le =
      apart_from_distinct same (seen mixed) i j d
      (IsDistinct-IsPermutation same (eq_by_cmp_equiv entry_total).symm (seen pairs) (seen mixed) entries
      (IsDistinct-from_apart same (seen pairs) distinct)) lt le

  pub mixed_new : (old : List Entry) → AreNew old (seen pairs) → AreNew old (seen mixed)
  mixed_new old fresh e there = fresh e (has_mixed e ∙ there)

  pub mixed_both : (old new : List Entry) → HoldsBoth old (seen mixed) new → HoldsBoth old (seen pairs) new
  mixed_both old new both e = both e ∙ ap (λ (b : Bool). has old e || b) (sym (has_mixed e))
