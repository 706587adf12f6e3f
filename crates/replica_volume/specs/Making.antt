-- Making a store: what is answered, and what a crash on the way leaves.
use Rattle.std.specs.Prelude.{◌≡◌, ◌≢◌, ◌⊎◌, ℕ, List, [], Result, Ok, Err}
use Rattle.disks.specs.declared.three.Disks.{Disks}
use Rattle.disks.specs.Joint.{Devices, now_of}
use Rattle.disks.specs.Moments.{LeavesTogether}
use Rattle.journal.specs.Image.{Head}
use Rattle.replica_core.specs.Replica.Found.{Stands}
use Rattle.replica_state.specs.Held.{meaning}
use Rattle.disks.specs.declared.fault.MakeFault.{MakeFault}
use Rattle.disks.specs.declared.fault.MakeFault.TheVariants as init
use Rattle.replica_volume.specs.Steps.{state_at}
use Rattle.replica_volume.specs.Store.{MayOpenAs, opens_as, stored_at}
use Rattle.replica_volume.specs.declared.replica.Volume.{Volume}

-- the volume has the state of no steps, at the replica of this header, and its limit
pub record IsEmptyAt {D : Type 0} (head : Head) (v : Volume D) : Type 0 where
  pub leaves : meaning v.state ≡ state_at head []
  pub limit : v.journal.limit ≡ head.limit

-- a store is made only over an empty root; and Exists is told only of one that is not empty
abbrev pub MakesVolume : {D : Type 0} → Head → List ℕ → Result (Volume D) (Disks D × MakeFault) → Type 0
MakesVolume head root (Ok v) = (root ≡ []) × IsEmptyAt head v
MakesVolume head root (Err (disks, init.Exists)) = root ≢ []
MakesVolume head root (Err (disks, init.Disk)) = Unit {0}
MakesVolume head root (Err (disks, init.Memory)) = Unit {0}

-- a crash on the way leaves what opens as after a crash at the start, or as no steps at this header
abbrev pub LeavesAsBeforeOrNew : Head → Devices → Devices → Type 0
LeavesAsBeforeOrNew head old new =
    LeavesTogether old new (λ files. MayOpenAs (now_of old.files) (opens_as files)
    ⊎ (opens_as files ≡ Stands (stored_at head [])))
