-- The history of a store that took steps.
use Rattle.std.specs.Prelude.{◌≡◌, ◌⊎◌, ◌++◌}
use Rattle.conflicts.specs.State.{History}
use Rattle.disks.specs.Joint.{Devices, seen_of}
use Rattle.disks.specs.Moments.{LeavesTogether}
use Rattle.replica_volume.specs.Store.{StoreFound, store_of}
use Rattle.replica_volume.specs.Store.StoreFound.{Blank, Damaged, Holds}

-- a history was found, and now the same with these steps behind it, in the same image
abbrev pub HoldsMore : History → StoreFound → StoreFound → Type 0
HoldsMore more Blank new = ⊥
HoldsMore more (Damaged disk place) new = ⊥
HoldsMore more (Holds side format head h) new = new ≡ Holds side format head (h ++ more)

-- what was found is found, or the same history with all these steps behind it
abbrev pub IsOldOrMore : History → StoreFound → StoreFound → Type 0
IsOldOrMore more old new = (new ≡ old) ⊎ HoldsMore more old new

-- a crash on the way leaves what the files held, or the same history with all these steps behind it
abbrev pub LeavesOldOrMore : History → Devices → Devices → Type 0
LeavesOldOrMore more old new =
    LeavesTogether old new (λ files. IsOldOrMore more (store_of (seen_of old.files)) (store_of files))
