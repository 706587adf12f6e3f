-- One pair that is put into a table.
use Rattle.std.proofs.Common.{◌≡◌, ◌≢◌, ℕ, ◌+◌, ◌<◌, Bool, not, ◌&&◌, List, [], ◌∷◌, length, get_or, AllPairs, Some}
use Rattle.std.proofs.Common.{subst, ◌∙◌, ap, arith, inl, inr}
use Rattle.std.proofs.lemmas.Bool.{cases_lt}
use Rattle.std.specs.List.{filter, slice_get}
use Rattle.index_tables.specs.Entries.{AreNew, entries_of, has}
use Rattle.index_tables.specs.Order.{Entry}
use Rattle.index_tables.proofs.Laws.{has-filter}
use Rattle.query_range.proofs.Keys.{reads}

-- one key is distinct
pub one_distinct : (key : List (List ℕ)) → AllPairs (λ a b. a ≢ b) (key ∷ [])
one_distinct key = λ i j d lt le. absurd (omega arith)

-- the keys before a place have a width, and so has the key at the place
pub width_more : (ps : List Entry) (place width : ℕ) (p : Entry) → Some p ≡ slice_get ps place → length p.0 ≡ width
    → ((k : ℕ) (d : Entry) → k < place → length (get_or ps k d).0 ≡ width) → (k : ℕ) (d : Entry) → k < place + 1
    → length (get_or ps k d).0 ≡ width
width_more ps place width p at is before k d lt = elim (cases_lt k place) [
  | inl early ↦ before k d early
  | inr late ↦
      let here : place ≡ k = omega arith in
      subst (λ (n : ℕ). length (get_or ps n d).0 ≡ width) here
      (ap (λ (e : Entry). length e.0) (reads ps place p at d) ∙ is)
]
