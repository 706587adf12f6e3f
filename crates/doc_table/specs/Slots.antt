-- Memory for an id and its value. Only private clauses speak of it.
use Rattle.std.specs.Prelude.{ℕ, Bool, true, false, List, [], T}
use Rattle.doc_table.specs.declared.entry.Slot.{Slot}
use Rattle.doc_table.specs.declared.entry.Slot.TheVariants.{Free, Taken}

module _ {F V : Type 0} where
  abbrev pub is_taken : Slot F V → Bool
  is_taken Free = false
  is_taken (Taken id value) = true

  abbrev pub id_in : Slot F V → List ℕ
  id_in Free = []
  id_in (Taken id value) = id

  -- the id and the value of a slot that is taken
  abbrev pub pair_in : (s : Slot F V) → T (is_taken s) → List ℕ × V
  pair_in Free taken = absurd taken
  pair_in (Taken id value) taken = (id, value)
