-- What an index over notes finds.
use Rattle.std.specs.Prelude.{◌≡◌, ◌⊎◌, List, [], ◌∷◌, Option, Some, None, Result, Ok, Err}
use Rattle.conflicts.specs.State.{Text}
use Rattle.replica_state.specs.Held.{Held, lists_of, meaning}
use Rattle.replica_reads.specs.Indexes.{queried}
use Rattle.replica_reads.specs.declared.fault.QueryFault.{QueryFault}
use Rattle.replica_reads.specs.declared.fault.QueryFault.TheVariants.{Memory}

-- the index of this name answers so the query of this value over the live documents
abbrev pub IsQueried : Held → Text → Text → Result (List Text) QueryFault → Type 0
IsQueried s name value answer =
    (exprs : List Text) × ((meaning s).index name ≡ Some exprs)
    × (queried exprs (lists_of s).docs (value ∷ []) ≡ answer)

-- the answer of the index of this name, or that there is none; or memory ran out
abbrev pub Finds : Held → Text → Text → Result (Option (List Text)) QueryFault → Type 0
Finds s name value (Ok None) = (meaning s).index name ≡ None
Finds s name value (Ok (Some ids)) = IsQueried s name value (Ok ids)
Finds s name value (Err fault) = (fault ≡ Memory) ⊎ IsQueried s name value (Err fault)
