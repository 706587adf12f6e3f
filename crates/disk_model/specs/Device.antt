-- What is known of a disk: its file, the files beside it, its earlier moments, and its counts.
use Rattle.std.specs.Prelude.{◌≡◌, ℕ, List, [], ◌∷◌, slice_index_or}
use Rattle.disk_model.specs.Disk.{Unsynced, settled}

-- a file: what a read of it gives, and what a crash may leave of it
pub record File : Type 0 where
  pub seen : List ℕ
  pub now : Unsynced

-- a crash leaves just what a read gives
abbrev pub IsSettled : File → Type 0
IsSettled file = file.now ≡ settled file.seen

-- where the file was settled, it still is
abbrev pub StaysSettled : File → File → Type 0
StaysSettled old new = IsSettled old → IsSettled new

-- the files that lie beside the one that calls go to: those before it, and those after it
abbrev pub Beside : Type 0
Beside = List File × List File

-- nothing lies beside it
abbrev pub alone : Beside
alone = ([], [])

-- one moment: this file, and those before and after it
abbrev pub Moment : Type 0
Moment = Unsynced × (List Unsynced × List Unsynced)

-- what a crash may leave of each file
abbrev pub losses : List File → List Unsynced
losses [] = []
losses (f ∷ fs) = f.now ∷ losses fs

abbrev pub moment : Unsynced → Beside → Moment
moment u others = (u, (losses others.0, losses others.1))

-- What is known of a disk: what a read gives, what a crash now may leave, the files beside it, which no call changes,
-- the earlier moments, how many calls it was given, as far as a u64 counts, and how often it failed.
pub record Device : Type 0 where
  pub seen : List ℕ
  pub now : Unsynced
  pub beside : Beside
  pub past : List Moment
  pub made : ℕ
  pub faults : ℕ

-- the file that calls go to
abbrev pub file_of : Device → File
file_of device = record { seen = device.seen; now = device.now }

-- a disk that holds these bytes and nothing beside them, before its first call
abbrev pub untouched : List ℕ → Device
untouched bytes = record { seen = bytes; now = settled bytes; beside = alone; past = []; made = 0; faults = 0 }

-- a disk of which only the counts are known
abbrev pub opaque : ℕ → ℕ → Device
opaque made faults = record { seen = []; now = settled []; beside = alone; past = []; made = made; faults = faults }

-- what a crash at the k-th moment may leave of this file: an earlier moment, or now
abbrev pub lost_at : Device → ℕ → Unsynced
lost_at device k = (slice_index_or device.past k (device.now, ([], []))).0
