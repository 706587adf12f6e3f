use Rattle.std.specs.Prelude.{◌≡◌, ◌⊎◌, ℕ, List, Result, Ok, Err}
use Rattle.conflicts.specs.State.{History}
use Rattle.disks.specs.declared.name.DiskName.{DiskName}
use Rattle.disks.specs.declared.trio.Trio.{Trio}
use Rattle.disks.specs.declared.three.Disks.{Disks}
use Rattle.disks.specs.Joint.{Devices, now_of, seen_of}
use Rattle.disks.specs.Moments.{LeavesTogether}
use Rattle.journal.specs.Image.{Head}
use Rattle.journal.specs.declared.layout.TheConstants.{FIRST_FORMAT}
use Rattle.replica_state.specs.Held.{meaning}
use Rattle.volume.specs.Crashes.{MayFind}
use Rattle.volume.specs.Store.{found_of}
use Rattle.replica_volume.specs.Steps.{state_at}
use Rattle.replica_volume.specs.Store.{IsMoved, IsSameOrMoved, MayOpenAs, store_of, opens_as}
use Rattle.replica_volume.specs.Store.StoreFound.{Blank, Damaged, Holds}
use Rattle.disks.specs.declared.fault.OpenFault.{OpenFault}
use Rattle.disks.specs.declared.fault.OpenFault.TheVariants as fault
use Rattle.replica_volume.specs.declared.replica.Volume.{Volume}

-- the volume has the state of the history that is found, and the limit of its image, which has either format
pub record IsOpenedFrom {D : Type 0} (files : Trio (List ℕ)) (v : Volume D) : Type 0 where
  pub side : DiskName
  pub format : ℕ
  pub head : Head
  pub history : History
  pub found : store_of files ≡ Holds side format head history
  pub leaves : meaning v.state ≡ state_at head history
  pub limit : v.journal.limit ≡ head.limit

-- the store has format 1, and can be read
pub record IsFormer (files : Trio (List ℕ)) : Type 0 where
  pub side : DiskName
  pub head : Head
  pub history : History
  pub found : store_of files ≡ Holds side FIRST_FORMAT head history

-- what was opened, or the fault that was named, is what is found of the files; the other faults say nothing of them
abbrev pub OpensVolume : {D : Type 0} → Trio (List ℕ) → Result (Volume D) (Disks D × OpenFault) → Type 0
OpensVolume files (Ok v) = IsOpenedFrom files v
OpensVolume files (Err (disks, fault.Blank)) = store_of files ≡ Blank
OpensVolume files (Err (disks, fault.Damaged disk place)) = store_of files ≡ Damaged disk place
OpensVolume files (Err (disks, fault.Disk)) = Unit {0}
OpensVolume files (Err (disks, fault.Memory)) = Unit {0}

-- what stands is as it was, or was moved to format 2
abbrev pub IsLeft : Devices → Devices → Type 0
IsLeft old new = IsSameOrMoved (found_of (seen_of old.files)) (found_of (seen_of new.files))

-- a crash on the way leaves what it might have left at the start, or what stood then, moved to format 2
abbrev pub LeavesOldOrMoved : Devices → Devices → Type 0
LeavesOldOrMoved old new =
    LeavesTogether old new (λ files. MayFind (now_of old.files) (found_of files)
    ⊎ IsMoved (found_of (seen_of old.files)) (found_of files))

-- so it leaves what opens as after a crash at the start
abbrev pub LeavesAsBefore : Devices → Devices → Type 0
LeavesAsBefore old new = LeavesTogether old new (λ files. MayOpenAs (now_of old.files) (opens_as files))
