-- The store on three disks: which image the root names, and what is found of the three files.
use Rattle.std.specs.Prelude.{◌≡◌, ◌≢◌, ℕ, ◌%◌, ◌==◌, if◌then◌else◌, List, [], ◌∷◌}
use Rattle.disk_model.specs.Device.{File, IsSettled}
use Rattle.disks.specs.declared.name.DiskName.{DiskName}
use Rattle.disks.specs.declared.name.DiskName.TheVariants.{Root, Left, Right}
use Rattle.disks.specs.declared.trio.Trio.{Trio}
use Rattle.disks.specs.Trio.{pick}
use Rattle.journal.specs.Image.{Head}
use Rattle.journal.specs.Journal.{Extent, Holds}
use Rattle.journal.specs.Spelled.{Spelled, Spells}
use Rattle.journal.specs.declared.layout.TheConstants.{SECOND_FORMAT}
use Rattle.journal.specs.Reader.{Reading, read_image}
use Rattle.journal.specs.Reader.Reading.{Damaged as Broken, Stands as Reads}

-- the image that a byte of the root names, by its lowest bit
abbrev pub chosen : ℕ → DiskName
chosen byte = if byte % 2 == 0 then Left else Right

-- What is found of a store: no database; damage of one of the files, at a place; or an image that stands, with its
-- side, its format, its head and its bodies.
pub data FoundImages : Type 0 where
  Blank : FoundImages
  Damaged : DiskName → ℕ → FoundImages
  Stands : DiskName → ℕ → Head → List (List ℕ) → FoundImages

-- what is found where this image is the one that counts, and reads so
abbrev pub found_in : DiskName → Reading → FoundImages
found_in side (Broken place) = Damaged side place
found_in side (Reads format head bodies) = Stands side format head bodies

-- An empty root means that there is no database. One byte names the image that counts. A second byte is damage.
abbrev pub found_by : List ℕ → Trio (List ℕ) → FoundImages
found_by [] files = Blank
found_by (byte ∷ []) files = found_in (chosen byte) (read_image (pick (chosen byte) files))
found_by (byte ∷ second ∷ rest) files = Damaged Root 1

-- what is found of three files
abbrev pub found_of : Trio (List ℕ) → FoundImages
found_of files = found_by files.root files

-- the root has one byte, which names this image, and a crash leaves it so
pub record Names (side : DiskName) (root : File) : Type 0 where
  pub byte : ℕ
  pub lowest : chosen byte ≡ side
  pub seen : root.seen ≡ byte ∷ []
  pub durable : IsSettled root

-- The store stands on the disks: the root names this side, and the image there is that of the journal, which a crash
-- leaves as it is. The other image may hold anything.
pub record IsStore (journal : Extent) (side : DiskName) (format : ℕ) (head : Head) (bodies : List (List ℕ))
    (files : Trio File) : Type 0 where
  pub names : Names side files.root
  pub image : Holds journal format head bodies (pick side files)

-- the store of the image that is spelled stands on this side
abbrev pub StandsSpelled : Spelled → Extent → DiskName → Trio File → Type 0
StandsSpelled spelled journal side files =
    (head : Head) (bodies : List (List ℕ)) → Spells head bodies spelled
    → IsStore journal side SECOND_FORMAT head bodies files

-- some store of this journal stands on this side
abbrev pub IsOpen : Extent → DiskName → Trio File → Type 0
IsOpen journal side files =
    (format : ℕ) × (head : Head) × (bodies : List (List ℕ)) × IsStore journal side format head bodies files

-- some store stands on another side than this
abbrev pub StandsOnOther : DiskName → Trio File → Type 0
StandsOnOther side files = (journal : Extent) × (from : DiskName) × (from ≢ side) × IsOpen journal from files
