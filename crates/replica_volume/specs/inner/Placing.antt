-- An image that is spelled anew, and one that stands in format 2.
use Rattle.std.specs.Prelude.{◌≡◌, ◌≢◌, ◌⊎◌, ℕ, List, [], ◌∷◌, Ok}
use Rattle.conflicts.specs.State.{History, Text}
use Rattle.disk_model.specs.Device.{File}
use Rattle.disks.specs.declared.name.DiskName.{DiskName}
use Rattle.disks.specs.declared.trio.Trio.{Trio}
use Rattle.disks.specs.Joint.{Devices}
use Rattle.disks.specs.Moments.{LeavesTogether}
use Rattle.compaction.specs.Images.{AreSpelled, bodies_of}
use Rattle.compaction.specs.declared.spelling.Spelled.{Spelled}
use Rattle.journal.specs.Image.{Head}
use Rattle.journal.specs.Journal.{Extent}
use Rattle.journal.specs.Stored.{StoredImage}
use Rattle.journal.specs.declared.layout.TheConstants.{SECOND_FORMAT}
use Rattle.volume.specs.Store.{IsStore, found_of}
use Rattle.volume.specs.Store.FoundImages.{Stands as StandingImage}
use Rattle.replica_volume.specs.Steps.{steps_of}
use Rattle.replica_volume.specs.declared.placing.Standing.{Standing}

-- the bodies of the image say this history, and leave these uids
abbrev pub SaysSteps : StoredImage → History → List Text → Type 0
SaysSteps image h us = steps_of image.format image.header image.bodies ≡ Ok (record { steps = h; uids = us })

-- the bodies are those of this history in format 2, where this uid has the number 0, and the uids are those that have
-- numbers behind them
abbrev pub IsSpelled : Text → History → Spelled → Type 0
IsSpelled own h s = AreSpelled own h s.bodies s.uids.uids

-- the store of this header stands, and its bodies say this history and leave the uids that have numbers
pub record StandsWith (head : Head) (h : History) (s : Standing) (files : Trio File) : Type 0 where
  pub bodies : List (List ℕ)
  pub stands : IsStore s.journal s.side SECOND_FORMAT head bodies files
  pub says : steps_of SECOND_FORMAT head bodies ≡ Ok (record { steps = h; uids = s.uids.uids })

-- a crash on the way leaves the store that stood on the other side, or that of this header and history, on this side
abbrev pub LeavesOldOrSpelled : DiskName → Head → History → Devices → Devices → Type 0
LeavesOldOrSpelled side head h old new =
    (journal : Extent) (from : DiskName) (format : ℕ) (former : Head) (rows : List (List ℕ)) → from ≢ side
    → IsStore journal from format former rows old.files
    → LeavesTogether old new (λ files. (found_of files ≡ StandingImage from format former rows)
    ⊎ (found_of files ≡ StandingImage side SECOND_FORMAT head (bodies_of (head.uid ∷ []) h)))
