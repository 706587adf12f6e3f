-- When a store is made, and when there is one already.
use Rattle.std.specs.Prelude.{◌≡◌, ◌≢◌, ℕ, List, [], Result, Ok, Err}
use Rattle.disks.specs.declared.fault.MakeFault.{MakeFault}
use Rattle.disks.specs.declared.fault.MakeFault.TheVariants as fault

-- a store is made only over an empty root, and Exists is told only of one that is not empty
abbrev pub Inits : {T : Type 0} → List ℕ → Result T MakeFault → Type 0
Inits root (Ok made) = root ≡ []
Inits root (Err fault.Exists) = root ≢ []
Inits root (Err fault.Disk) = Unit {0}
Inits root (Err fault.Memory) = Unit {0}
