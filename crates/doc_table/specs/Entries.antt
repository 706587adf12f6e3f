-- The pairs behind a table.
use Rattle.std.specs.Prelude.{ℕ, List, T}
use Rattle.std.specs.FinMap.Entries.{is_sorted}
use Rattle.u1_base.specs.Ids.{id_cmp}

module _ {V : Type 0} where
  -- the ids rise
  abbrev pub AreSorted : List (List ℕ × V) → Type 0
  AreSorted pairs = T (is_sorted id_cmp pairs)
