-- Beside specs/Opening: words of private contracts and of proofs.
use Rattle.std.specs.Prelude.{◌≡◌, ℕ, List, [], ◌∷◌, Result, Ok, Err}
use Rattle.disks.specs.declared.name.DiskName.{DiskName}
use Rattle.disks.specs.declared.name.DiskName.TheVariants.{Root}
use Rattle.volume.specs.Store.{chosen}
use Rattle.disks.specs.declared.fault.OpenFault.{OpenFault}
use Rattle.disks.specs.declared.fault.OpenFault.TheVariants as fault

-- the root names this side, or is empty, or has a second byte
abbrev pub RootNames : List ℕ → Result DiskName OpenFault → Type 0
RootNames root (Ok side) = (byte : ℕ) × (root ≡ byte ∷ []) × (chosen byte ≡ side)
RootNames root (Err fault.Blank) = root ≡ []
RootNames root (Err (fault.Damaged disk place)) =
    (disk ≡ Root) × (place ≡ 1) × ((byte : ℕ) × (second : ℕ) × (rest : List ℕ) × (root ≡ byte ∷ second ∷ rest))
RootNames root (Err fault.Disk) = Unit {0}
RootNames root (Err fault.Memory) = ⊥
