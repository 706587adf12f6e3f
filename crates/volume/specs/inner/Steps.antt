-- Private words of the steps from which making a store is put together.
use Rattle.std.specs.Prelude.{◌≡◌, ◌⊎◌, ℕ, List, []}
use Rattle.disk_model.specs.Device.{File, IsSettled}
use Rattle.disks.specs.declared.trio.Trio.{Trio}
use Rattle.disks.specs.Joint.{Devices}
use Rattle.disks.specs.Moments.{LeavesTogether}
use Rattle.journal.specs.Image.{Head, ReadsAs}
use Rattle.journal.specs.declared.layout.TheConstants.{SECOND_FORMAT}
use Rattle.volume.specs.Store.{found_of, Names}
use Rattle.volume.specs.Store.FoundImages.{Blank}
use Rattle.volume.specs.Crashes.{IsEmptyStore}
use Rattle.disks.specs.declared.name.DiskName.TheVariants.{Left}

-- the root is empty, and a crash leaves it so
pub record IsBlank (root : File) : Type 0 where
  pub seen : root.seen ≡ []
  pub durable : IsSettled root

-- the file holds these bytes, and a crash leaves just them
pub record IsWhole (bytes : List ℕ) (file : File) : Type 0 where
  pub seen : file.seen ≡ bytes
  pub durable : IsSettled file

-- the root names the left image, which is these bytes
pub record IsMade (image : List ℕ) (files : Trio File) : Type 0 where
  pub names : Names Left files.root
  pub there : IsWhole image files.left

-- a crash on the way leaves no store, or the empty one that these bytes are
abbrev pub LeavesBlankOrEmpty : List ℕ → Devices → Devices → Type 0
LeavesBlankOrEmpty image old new =
    (head : Head) → ReadsAs SECOND_FORMAT head [] image
    → LeavesTogether old new (λ files. (found_of files ≡ Blank) ⊎ IsEmptyStore head (found_of files))
