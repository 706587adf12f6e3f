-- The id of a slot that is taken.
use Rattle.std.proofs.Common.{◌≡◌, ℕ, List, T, refl, subst}
use Rattle.doc_table.specs.Abbreviated.{IsAbbreviated}
use Rattle.doc_table.specs.Slots.{id_in, is_taken, pair_in}
use Rattle.doc_table.specs.declared.entry.Slot.{Slot}
use Rattle.doc_table.specs.declared.entry.Slot.TheVariants.{Free, Taken}

module _ {F V : Type 0} where
  id_is : (s : Slot F V) (taken : T (is_taken s)) → id_in s ≡ (pair_in s taken).0
  id_is Free taken = absurd taken
  id_is (Taken id value) taken = refl

  pub of_pair : (s : Slot F V) (taken : T (is_taken s)) (key : ℕ) → IsAbbreviated (id_in s) key
      → IsAbbreviated (pair_in s taken).0 key
  of_pair s taken key of_id = subst (λ (id : List ℕ). IsAbbreviated id key) (id_is s taken) of_id
