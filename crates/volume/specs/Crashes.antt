-- What a crash leaves of a store, by what is found of it then.
use Rattle.std.specs.Prelude.{◌≡◌, ◌≢◌, ◌⊎◌, ℕ, List, [], ◌∷◌, ◌++◌}
use Rattle.disk_model.specs.Device.{File, StaysSettled}
use Rattle.disks.specs.declared.name.DiskName.{DiskName}
use Rattle.disks.specs.declared.name.DiskName.TheVariants.{Left, Right}
use Rattle.disks.specs.declared.trio.Trio.{Trio}
use Rattle.disks.specs.Trio.{pick}
use Rattle.disks.specs.Joint.{JointMoment, AreCrashImages, Devices, seen_of, now_of}
use Rattle.disks.specs.Moments.{LeavesTogether}
use Rattle.journal.specs.Image.{Head}
use Rattle.journal.specs.Journal.{Extent}
use Rattle.journal.specs.Entries.{AreSpelled}
use Rattle.journal.specs.Spelled.{Spelled, Spells}
use Rattle.journal.specs.declared.layout.TheConstants.{SECOND_FORMAT}
use Rattle.volume.specs.Store.{FoundImages, found_of, IsStore}
use Rattle.volume.specs.Store.FoundImages.{Blank, Stands}

-- Nothing was written: the reads give what they gave, a crash on the way leaves no more than one at the start might,
-- and each file that was settled still is.
pub record OnlyLooks (old new : Devices) : Type 0 where
  pub seen : seen_of new.files ≡ seen_of old.files
  pub leaves : LeavesTogether old new (AreCrashImages (now_of old.files))
  pub settled : (name : DiskName) → StaysSettled (pick name old.files) (pick name new.files)

-- this might be found after a crash at this moment
abbrev pub MayFind : JointMoment → FoundImages → Type 0
MayFind moment found = (files : Trio (List ℕ)) × AreCrashImages moment files × (found ≡ found_of files)

-- the empty store of this head, in the format that is written, on either side
abbrev pub IsEmptyStore : Head → FoundImages → Type 0
IsEmptyStore head found =
    (found ≡ Stands Left SECOND_FORMAT head []) ⊎ (found ≡ Stands Right SECOND_FORMAT head [])

-- there is no database, or the empty store of this head
abbrev pub IsBlankOrEmpty : Head → FoundImages → Type 0
IsBlankOrEmpty head found = (found ≡ Blank) ⊎ IsEmptyStore head found

-- a crash on the way leaves what a crash at the start might leave, or the empty store of this head
abbrev pub LeavesOldOrEmpty : Head → Devices → Devices → Type 0
LeavesOldOrEmpty head old new =
    LeavesTogether old new (λ files. MayFind (now_of old.files) (found_of files) ⊎ IsEmptyStore head (found_of files))

-- every store that stood with the journal before stands with the one after it, with one body more
abbrev pub StandsOneMore : List ℕ → DiskName → Extent → Extent → Trio File → Trio File → Type 0
StandsOneMore body side old new before after =
    (format : ℕ) (head : Head) (bodies : List (List ℕ)) → IsStore old side format head bodies before
    → IsStore new side format head (bodies ++ body ∷ []) after

-- a crash on the way leaves the store that stood, or that with one body more
abbrev pub LeavesOldOrOneMore : List ℕ → DiskName → Extent → Devices → Devices → Type 0
LeavesOldOrOneMore body side journal old new =
    (format : ℕ) (head : Head) (bodies : List (List ℕ)) → IsStore journal side format head bodies old.files
    → LeavesTogether old new (λ files. (found_of files ≡ Stands side format head bodies)
    ⊎ (found_of files ≡ Stands side format head (bodies ++ body ∷ [])))

-- every store that stood with the journal before stands with the one after it, with all bodies more that are spelled
abbrev pub StandsAllMore : List ℕ → DiskName → Extent → Extent → Trio File → Trio File → Type 0
StandsAllMore spelled side old new before after =
    (more : List (List ℕ)) → AreSpelled more spelled
    → (format : ℕ) (head : Head) (bodies : List (List ℕ)) → IsStore old side format head bodies before
    → IsStore new side format head (bodies ++ more) after

-- a crash on the way leaves the store that stood, or that with all bodies more that are spelled
abbrev pub LeavesOldOrAllMore : List ℕ → DiskName → Extent → Devices → Devices → Type 0
LeavesOldOrAllMore spelled side journal old new =
    (more : List (List ℕ)) → AreSpelled more spelled
    → (format : ℕ) (head : Head) (bodies : List (List ℕ)) → IsStore journal side format head bodies old.files
    → LeavesTogether old new (λ files. (found_of files ≡ Stands side format head bodies)
    ⊎ (found_of files ≡ Stands side format head (bodies ++ more)))

-- a crash on the way leaves the store that stood on the other side, or that of the image that is spelled, on this side
abbrev pub LeavesOldOrNew : DiskName → Spelled → Devices → Devices → Type 0
LeavesOldOrNew side spelled old new =
    (head : Head) (bodies : List (List ℕ)) → Spells head bodies spelled
    → (journal : Extent) (from : DiskName) (format : ℕ) (former : Head) (rows : List (List ℕ)) → from ≢ side
    → IsStore journal from format former rows old.files
    → LeavesTogether old new (λ files. (found_of files ≡ Stands from format former rows)
    ⊎ (found_of files ≡ Stands side SECOND_FORMAT head bodies))
