-- An example of what is said of a run on three disks: two images are written, and the root last.
use Rattle.std.specs.Prelude.{◌≡◌, ◌⊎◌, ℕ, List, []}
use Rattle.disk_model.specs.Disk.{settled}
use Rattle.disk_model.specs.Device.{File}
use Rattle.disks.specs.declared.trio.Trio.{Trio}

-- the file holds these bytes, and a crash leaves just them
abbrev pub whole : List ℕ → File
whole bytes = record { seen = bytes; now = settled bytes }

-- all three files are empty, and lie so on the disks
pub record AreEmpty (files : Trio File) : Type 0 where
  pub root : files.root ≡ whole []
  pub left : files.left ≡ whole []
  pub right : files.right ≡ whole []

-- the root is still empty, or both images are there
abbrev pub IsRootLast : List ℕ → Trio (List ℕ) → Type 0
IsRootLast image images = (images.root ≡ []) ⊎ ((images.left ≡ image) × (images.right ≡ image))
