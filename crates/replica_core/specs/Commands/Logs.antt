-- The commands that show the log and the positions: changes and info.
use Rattle.std.specs.Prelude.{ℕ, ◌∷◌, ◌++◌, map, Result}
use Rattle.translog.specs.Entries.{changes_since}
use Rattle.translog.specs.Log.{end_of}
use Rattle.conflicts.specs.State.{State}
use Rattle.replica_state.specs.Held.{Lists}
use Rattle.replica_core.specs.Commands.Effects.{Changed, Effect, Known, Now, OfDatabase, OfReplica, Refusal, Told}
use Rattle.replica_core.specs.Commands.Effects.{prints}

-- changes since a generation: the position after all entries, and each document that changed at its last entry
abbrev pub changes_effect : State → ℕ → Result Effect Refusal
changes_effect s generation = prints (Now (end_of s.log) ∷ map Changed (changes_since s.log generation))

-- info: the replica, its database, the position after all entries, and the positions that are kept of peers by their
-- uids
abbrev pub info_effect : Lists → Result Effect Refusal
info_effect l =
    prints
    (OfReplica l.uid ∷ OfDatabase l.name ∷ Now (end_of l.log)
    ∷ map (λ kept. Known kept.0 kept.1) l.known ++ map (λ kept. Told kept.0 kept.1) l.told)
