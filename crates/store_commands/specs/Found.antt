-- What opening a store finds, and what is known of a store at a moment.
use Rattle.std.specs.Prelude.{◌≡◌, ℕ, List, Option, Some, None}
use Rattle.conflicts.specs.State.{History, State, Step}
use Rattle.disks.specs.declared.name.DiskName.{DiskName}
use Rattle.replica_state.specs.Held.{Held, Lists, lists_of, meaning}
use Rattle.replica_core.specs.Replica.{Found as Left, Known, state_in, Blank as LeftBlank, Damaged as LeftDamaged}
use Rattle.replica_core.specs.Replica.{Stands as LeftStands, Stored}

-- what stands in a store: its state; how long its image would be with a step behind further steps; and how long it may
-- be
pub record Standing : Type 0 where
  pub state : State
  pub need : History → Step → ℕ
  pub limit : ℕ

-- what opening finds: no database; a damaged file, and from which byte on; or what stands there
pub data Found : Type 0 where
  Blank : Found
  Damaged : DiskName → ℕ → Found
  Stands : Standing → Found

-- the same, as it is told of what a crash leaves: the state and the limit
abbrev pub in_short : Found → Left Stored
in_short Blank = LeftBlank
in_short (Damaged disk place) = LeftDamaged
in_short (Stands x) = LeftStands (record { state = x.state; limit = x.limit })

-- What is known of a store: what opening would find, where its disks tell it; what a crash at each moment leaves; its
-- moment; how often its disks failed; and the bytes that reads give of each of its files, where contracts can see them.
pub record Store : Type 1 where
  pub found : Option Found
  pub crash : ℕ → Left Stored → Type 0
  pub moment : ℕ
  pub faults : ℕ
  pub bytes : Option (List (List ℕ))

-- what is told, if anything is, is this
abbrev pub IsTold : Option Found → Found → Type 0
IsTold None found = Unit {0}
IsTold (Some told) found = told ≡ found

-- reads give of each file what they gave before, where contracts can see it
abbrev pub IsUntouched : Store → Store → Type 0
IsUntouched before after = after.bytes ≡ before.bytes

-- these are the sorted lists of what stands there, if something does
abbrev pub HasLists : Found → Lists → Type 0
HasLists Blank lists = Unit {0}
HasLists (Damaged disk place) lists = Unit {0}
HasLists (Stands x) lists = (held : Held) × (meaning held ≡ x.state) × (lists ≡ lists_of held)

-- ---- an open store

abbrev pub standing_in : Known → Standing
standing_in known = record { state = state_in known; need = known.need; limit = known.limit }

-- it tells what stands in it, and no bytes
abbrev pub opened_as : Known → (ℕ → Left Stored → Type 0) → Store
opened_as known crash =
    record {
      found = Some (Stands (standing_in known));
      crash = crash;
      moment = known.moment;
      faults = known.faults;
      bytes = None;
    }
