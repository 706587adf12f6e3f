-- Beside specs/Opening: words of private contracts and of proofs.
use Rattle.disks.specs.Joint.{Devices, seen_of}
use Rattle.disks.specs.Moments.{LeavesTogether}
use Rattle.volume.specs.Store.{found_of}
use Rattle.replica_volume.specs.Store.{IsSameOrMoved}
use Rattle.disks.specs.declared.fault.OpenFault.TheVariants as fault

-- private: a crash on the way leaves what stood at the start, or the same, moved to format 2
abbrev pub LeavesSameOrMoved : Devices → Devices → Type 0
LeavesSameOrMoved old new =
    LeavesTogether old new (λ files. IsSameOrMoved (found_of (seen_of old.files)) (found_of files))
