-- What stands at a place of a table of positions, and of the indexes.
use Rattle.std.proofs.Common.{◌≡◌, ℕ, zero, suc, List, [], ◌∷◌, map, refl}
use Rattle.std.specs.Option.{option_map}
use Rattle.std.specs.Prelude.{slice_get}
use Rattle.u1_base.specs.Places.{Place}
use Rattle.conflicts.specs.declared.moves.PosTable.{PosTable}
use Rattle.conflicts.specs.declared.moves.PosTable.TheVariants.{Known, Told}
use Rattle.doc_table.specs.Listed.{Listed}
use Rattle.replica_state.specs.Held.{chosen, named}
use Rattle.replica_state.specs.Named.{heading}
use Rattle.replica_state.specs.inner.Named.{name_of}
use Rattle.replica_state.specs.declared.index.Index.{Index}

-- the pairs of a chosen table are the chosen pairs
pub chosen_pairs : (table : PosTable) (known told : Listed Place)
    → (chosen table known told).pairs ≡ chosen table known.pairs told.pairs
chosen_pairs Known known told = refl
chosen_pairs Told known told = refl

-- the name and the expressions of the index at a place
pub named_at : (xs : List Index) (place : ℕ)
    → option_map name_of (slice_get xs place) ≡ slice_get (named (map heading xs)) place
named_at [] place = refl
named_at (x ∷ xs) zero = refl
named_at (x ∷ xs) (suc place) = named_at xs place
