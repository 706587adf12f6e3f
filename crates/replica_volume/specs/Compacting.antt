-- Writing the image of a volume anew with what a compaction leaves: what is answered, and what a crash on the way
use Rattle.std.specs.Prelude.{◌≡◌, ◌⊎◌, ℕ, ◌+◌, ◌-◌, ◌^◌, List, [], ◌∷◌, ◌++◌, Bool, false, length, min, Result}
use Rattle.std.specs.Prelude.{Ok, Err}
use Rattle.compaction.specs.Compaction.{compaction}
use Rattle.compaction.specs.Images.{image_of}
use Rattle.conflicts.specs.State.{History, Step}
use Rattle.disk_model.specs.Device.{Device}
use Rattle.disks.specs.declared.name.DiskName.{DiskName}
use Rattle.disks.specs.declared.name.DiskName.TheVariants.{Root, Left, Right}
use Rattle.disks.specs.declared.trio.Trio.{Trio}
use Rattle.disks.specs.Joint.{Devices, seen_of}
use Rattle.disks.specs.Moments.{LeavesTogether}
use Rattle.journal.specs.Image.{Head}
use Rattle.journal.specs.declared.layout.TheConstants.{SECOND_FORMAT}
use Rattle.record_codec.specs.declared.decoding.RecordFault.TheVariants as record_fault
use Rattle.replica_core.specs.Replica.{Known, Stored}
use Rattle.replica_core.specs.Replica.Found.{Stands}
use Rattle.replica_volume.specs.Store.{opens_as, store_of}
use Rattle.replica_volume.specs.Store.StoreFound.{Holds}
use Rattle.replica_volume.specs.Volume.{IsOpenVolume, devices, volume_known}
use Rattle.disks.specs.declared.fault.CompactFault.{CompactFault}
use Rattle.disks.specs.declared.fault.CompactFault.TheVariants as fault
use Rattle.disks.specs.declared.fault.Sizes.{Sizes}
use Rattle.replica_volume.specs.declared.replica.Volume.{Volume}

-- the image that does not lie on this side
abbrev pub other_side : DiskName → DiskName
other_side Root = Left
other_side Left = Right
other_side Right = Left

-- ---- what is answered

-- the lengths of the image before, and of the one after
abbrev pub sizes_of : {D : Type 0} → Volume D → Volume D → Sizes
sizes_of old new = record { before = old.journal.length; after = new.journal.length }

-- What there is when a history was compacted whose image lay on this side: the compaction, on the other side; the sizes
-- of the two images; the limit of the image that was there; and a step needs what it takes behind the compaction and
-- behind further steps.
pub record IsCompacted (side : DiskName) (head : Head) (h : History) (files : Trio (List ℕ)) (known : Known)
    (sizes : Sizes) : Type 0 where
  pub holds : store_of files ≡ Holds (other_side side) SECOND_FORMAT head (compaction h)
  pub before : sizes.before ≡ length (image_of head h)
  pub after : sizes.after ≡ length (image_of head (compaction h))
  pub limit : known.limit ≡ head.limit
  pub need : (xs : History) (x : Step)
      → known.need xs x ≡ min (length (image_of head (compaction h ++ (xs ++ x ∷ [])))) (2 ^ 64 - 1)

-- the history that the files held was compacted
abbrev pub Compacts : {D : Type 0} → Bool → (D → Device) → Volume D → Volume D → Sizes → Type 0
Compacts tells known old new sizes =
    (side : DiskName) (head : Head) (h : History)
    → store_of (seen_of (devices known old).files) ≡ Holds side SECOND_FORMAT head h
    → IsCompacted side head h (seen_of (devices known new).files) (volume_known tells known new) sizes

-- the volume is open, but where a disk failed
abbrev pub StaysOpen : {D : Type 0} → Bool → (D → Device) → Volume D → Result Sizes CompactFault → Type 0
StaysOpen tells known v (Ok sizes) = IsOpenVolume tells known v
StaysOpen tells known v (Err (fault.Damaged disk place)) = IsOpenVolume tells known v
StaysOpen tells known v (Err fault.Disk) = v.open ≡ false
StaysOpen tells known v (Err fault.Memory) = IsOpenVolume tells known v

-- ---- what a crash leaves

-- these files hold the history, on this side, or its compaction, on the other
abbrev pub HoldOldOrCompacted : DiskName → Head → History → Trio (List ℕ) → Type 0
HoldOldOrCompacted side head h files =
    (store_of files ≡ Holds side SECOND_FORMAT head h)
    ⊎ (store_of files ≡ Holds (other_side side) SECOND_FORMAT head (compaction h))

-- a crash on the way leaves the history that the files held, or its compaction
abbrev pub LeavesOldOrCompacted : Devices → Devices → Type 0
LeavesOldOrCompacted old new =
    (side : DiskName) (head : Head) (h : History) → store_of (seen_of old.files) ≡ Holds side SECOND_FORMAT head h
    → LeavesTogether old new (HoldOldOrCompacted side head h)

-- a crash on the way leaves what opens as this state, under this limit
abbrev pub LeavesStored : Stored → Devices → Devices → Type 0
LeavesStored s old new = LeavesTogether old new (λ files. opens_as files ≡ Stands s)

-- ---- private words: the image was written anew, or was not

-- ---- private words: the steps that are read from the image
