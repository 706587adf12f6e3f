-- The three files of a store in a folder, and which of them failed.
use Rattle.std.specs.Prelude.{◌≡◌, ℕ, List, [], ◌∷◌, ◌++◌, codes, if◌then◌else◌, is_some, Option, Some, None}
use Rattle.disk_model.specs.Device.{opaque}
use Rattle.disk_model.specs.FileDisk.{file_fault, file_known, file_path}
use Rattle.disk_model.specs.declared.file.FileDisk.{FileDisk}
use Rattle.disks.specs.Disks.{disk_of}
use Rattle.disks.specs.declared.name.DiskName.{DiskName}
use Rattle.disks.specs.declared.name.DiskName.TheVariants.{Root, Left, Right}
use Rattle.disks.specs.declared.three.Disks.{Disks}

-- the folder of a path: an empty one is the current folder
abbrev pub folder_at : List ℕ → List ℕ
folder_at [] = codes "."
folder_at (b ∷ bs) = b ∷ bs

-- what follows the folder in the path of a file
abbrev pub name_of : DiskName → List ℕ
name_of Root = codes "/root"
name_of Left = codes "/left"
name_of Right = codes "/right"

-- the path of a file of the store in this folder
abbrev pub path_in : List ℕ → DiskName → List ℕ
path_in folder name = folder_at folder ++ name_of name

-- the three are the files of the store in this folder
abbrev pub HavePaths : {R F A : Type 0} → List ℕ → Disks (FileDisk R F A) → Type 0
HavePaths folder files = (name : DiskName) → file_path (disk_of files name) ≡ path_in folder name

-- no call of the three was made, and none failed
abbrev pub AreUnused : {R F A : Type 0} → Disks (FileDisk R F A) → Type 0
AreUnused files = (name : DiskName) → file_known (disk_of files name) ≡ opaque 0 0

-- the first of the three, a call of which has failed
abbrev pub failed_of : {R F A : Type 0} → Disks (FileDisk R F A) → Option DiskName
failed_of files =
    if is_some (file_fault (disk_of files Root)) then Some Root
    else if is_some (file_fault (disk_of files Left)) then Some Left
    else if is_some (file_fault (disk_of files Right)) then Some Right
    else None
