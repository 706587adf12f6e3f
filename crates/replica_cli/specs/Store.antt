-- What is known of a store on three disks.
use Rattle.std.specs.Prelude.{ℕ, ◌+◌, ◌-◌, ◌^◌, ◌==◌, min, Bool, IsTrue, if◌then◌else◌, List, [], ◌∷◌, length, Option, Some, None}
use Rattle.std.specs.Prelude.{Result, Ok, Err}
use Rattle.compaction.specs.Images.{bodies_of, uids_after}
use Rattle.conflicts.specs.State.{Step, Text}
use Rattle.disk_model.specs.Device.{Device}
use Rattle.disks.specs.Disks.{disks_known}
use Rattle.disks.specs.Joint.{Devices, moment_at, seen_of}
use Rattle.disks.specs.declared.name.DiskName.{DiskName}
use Rattle.disks.specs.declared.trio.Trio.{Trio}
use Rattle.journal.specs.Image.{Head, header_bytes, up_to_gate}
use Rattle.journal.specs.declared.layout.TheConstants.{FIRST_FORMAT, SECOND_FORMAT}
use Rattle.replica_volume.specs.Steps.{Chronicle, state_at, steps_of}
use Rattle.replica_volume.specs.Store.{MayOpenAs}
use Rattle.replica_volume.specs.Volume.{devices, length_with, moments}
use Rattle.replica_volume.specs.declared.replica.Volume.{Volume}
use Rattle.store_commands.specs.Compacting.{Image}
use Rattle.store_commands.specs.Found.{Blank, Damaged, Found, Standing, Stands, Store}
use Rattle.volume.specs.Store.{FoundImages, found_of}
use Rattle.volume.specs.Store.FoundImages.{Blank as NoImages, Damaged as BrokenImage, Stands as StandingImage}
use Rattle.replica_cli.specs.declared.store.StoreOnDisks.{StoreOnDisks}

-- An image as opening it leaves it: its bodies, and the uids that have numbers after them. One of the first format is
-- spelled anew in the second.
pub record Opened : Type 0 where
  pub bodies : List (List ℕ)
  pub uids : List Text

abbrev pub opened_image : ℕ → Head → List (List ℕ) → Chronicle → Opened
opened_image format head bodies read =
    if format == FIRST_FORMAT then record {
      bodies = bodies_of (head.uid ∷ []) read.steps;
      uids = uids_after (head.uid ∷ []) read.steps;
    } else record { bodies = bodies; uids = read.uids }

-- its length up to and with its last gate
abbrev pub length_of : Head → List (List ℕ) → ℕ
length_of head bodies = length (up_to_gate SECOND_FORMAT head bodies) + 1

-- the state of the steps that an image says, with what a step needs behind further ones, and the limit of its header
abbrev pub standing_in : Head → Opened → List Step → Standing
standing_in head image steps = record {
  state = state_at head steps;
  need = λ xs y. min (length_with (length_of head image.bodies) image.uids xs y) (2 ^ 64 - 1);
  limit = head.limit;
}

abbrev pub standing_of : ℕ → Head → List (List ℕ) → Chronicle → Standing
standing_of format head bodies read = standing_in head (opened_image format head bodies read) read.steps

-- an image whose bodies say steps; or it is damaged where a body has no reading
abbrev pub image_as : DiskName → ℕ → Head → List (List ℕ) → Result Chronicle ℕ → Found
image_as side format head bodies (Ok read) = Stands (standing_of format head bodies read)
image_as side format head bodies (Err place) = Damaged side (length (header_bytes format head) + place)

abbrev pub images_as : FoundImages → Found
images_as NoImages = Blank
images_as (BrokenImage disk place) = Damaged disk place
images_as (StandingImage side format head bodies) = image_as side format head bodies (steps_of format head bodies)

-- what a command finds of three files
abbrev pub found_in : Trio (List ℕ) → Found
found_in files = images_as (found_of files)

-- ---- the image that stands

-- its length and its steps, as opening it leaves it
abbrev pub image_with : ℕ → Head → List (List ℕ) → Result Chronicle ℕ → Option Image
image_with format head bodies (Ok read) =
    Some (record {
      length = length_of head (opened_image format head bodies read).bodies;
      steps = read.steps;
    })
image_with format head bodies (Err place) = None

abbrev pub image_of : FoundImages → Option Image
image_of NoImages = None
image_of (BrokenImage disk place) = None
image_of (StandingImage side format head bodies) = image_with format head bodies (steps_of format head bodies)

-- the image of a store, where contracts can see the bytes of its disks
abbrev pub image_seen : Bool → Devices → Option Image
image_seen tells d = if tells then image_of (found_of (seen_of d.files)) else None

abbrev pub store_image : {D : Type 0} → Bool → (D → Device) → StoreOnDisks D → Option Image
store_image tells known s = image_seen tells (disks_known known s.disks)

abbrev pub volume_image : {D : Type 0} → Bool → (D → Device) → Volume D → Option Image
volume_image tells known v = image_seen tells (devices known v)

-- ---- the store

-- the bytes of the three files, in the order root, left, right
abbrev pub bytes_of : Trio (List ℕ) → List (List ℕ)
bytes_of files = files.root ∷ files.left ∷ files.right ∷ []

-- the same as reads give them, where contracts can see them
abbrev pub bytes_seen : Bool → Devices → Option (List (List ℕ))
bytes_seen tells d = if tells then Some (bytes_of (seen_of d.files)) else None

-- What is known of a store by what is known of its three disks. Where contracts cannot see their bytes only the count
-- of their faults is known.
abbrev pub store_seen : Bool → Devices → Store
store_seen tells d = record {
  found = if tells then Some (found_in (seen_of d.files)) else None;
  crash = λ k o. IsTrue tells × MayOpenAs (moment_at d k) o;
  moment = moments tells d;
  faults = d.faults;
  bytes = bytes_seen tells d;
}

abbrev pub store_known : {D : Type 0} → Bool → (D → Device) → StoreOnDisks D → Store
store_known tells known s = store_seen tells (disks_known known s.disks)
