-- Beside specs/Entries: words of private contracts and of proofs.
use Rattle.std.specs.Prelude.{◌≡◌, ℕ, List, Some, slice_get}
use Rattle.chunk_list.specs.inner.Sorted.{StandsAt}
use Rattle.u1_base.specs.Ids.{id_cmp}

module _ {V : Type 0} where
  -- an id stands at a place, and the pair is the one there
  abbrev pub IsFound : List (List ℕ × V) → List ℕ → ℕ → List ℕ × V → Type 0
  IsFound pairs id place pair = StandsAt id_cmp pairs id place × (Some pair ≡ slice_get pairs place)
