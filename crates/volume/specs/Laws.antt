-- What holds of every store.
use Rattle.std.specs.Prelude.{◌≡◌, ◌⊎◌, ◌↔◌, ℕ, List, [], ◌∷◌}
use Rattle.disk_model.specs.Device.{File}
use Rattle.disks.specs.declared.name.DiskName.{DiskName}
use Rattle.disks.specs.declared.name.DiskName.TheVariants.{Root}
use Rattle.disks.specs.declared.trio.Trio.{Trio}
use Rattle.disks.specs.Trio.{pick}
use Rattle.disks.specs.Joint.{AreCrashImages, seen_of, now_of}
use Rattle.journal.specs.Image.{Head, ReadsAs}
use Rattle.journal.specs.Journal.{Extent}
use Rattle.journal.specs.Damage.{DamagedAt}
use Rattle.volume.specs.Store.{chosen, FoundImages, found_of, IsStore}
use Rattle.volume.specs.Store.FoundImages.{Blank, Damaged, Stands}

-- what stands is found, by the reads and after a crash, whatever the other image holds
pub record StoreStands (journal : Extent) (side : DiskName) (format : ℕ) (head : Head) (bodies : List (List ℕ))
    (files : Trio File) : Type 0 where
  pub read : found_of (seen_of files) ≡ Stands side format head bodies
  pub left : (images : Trio (List ℕ)) → AreCrashImages (now_of files) images
      → found_of images ≡ Stands side format head bodies

abbrev pub StoresStand : Type 0
StoresStand =
    (journal : Extent) (side : DiskName) (format : ℕ) (head : Head) (bodies : List (List ℕ)) (files : Trio File)
    → IsStore journal side format head bodies files → StoreStands journal side format head bodies files

-- what was found says this of the files
abbrev pub IsFound : Trio (List ℕ) → FoundImages → Type 0
IsFound files Blank = files.root ≡ []
IsFound files (Damaged disk place) =
    ((disk ≡ Root) × (place ≡ 1) × ((byte : ℕ) × (second : ℕ) × (rest : List ℕ) × (files.root ≡ byte ∷ second ∷ rest)))
    ⊎ ((byte : ℕ) × (files.root ≡ byte ∷ []) × (chosen byte ≡ disk) × DamagedAt place (pick disk files))
IsFound files (Stands side format head bodies) =
    (byte : ℕ) × (files.root ≡ byte ∷ []) × (chosen byte ≡ side) × ReadsAs format head bodies (pick side files)

-- this is found where the files are so, and nowhere else
abbrev pub FoundIsExact : Type 0
FoundIsExact = (files : Trio (List ℕ)) (found : FoundImages) → (found_of files ≡ found) ↔ IsFound files found
