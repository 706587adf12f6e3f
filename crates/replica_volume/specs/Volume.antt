-- A replica on three disks, as contracts see it.
use Rattle.std.specs.Prelude.{◌≡◌, ◌≢◌, ℕ, ◌+◌, ◌-◌, ◌^◌, min, List, [], ◌∷◌, ◌++◌, Bool, true, IsTrue}
use Rattle.std.specs.Prelude.{if◌then◌else◌, length, Result, Ok, Err}
use Rattle.conflicts.specs.State.{History, Step, Text}
use Rattle.disk_model.specs.Device.{Device, File}
use Rattle.disks.specs.declared.name.DiskName.TheVariants.{Root}
use Rattle.disks.specs.declared.trio.Trio.{Trio}
use Rattle.disks.specs.declared.three.Disks.{Disks}
use Rattle.disks.specs.Joint.{Devices, moment_at}
use Rattle.disks.specs.Disks.{disks_known}
use Rattle.journal.specs.Image.{Head}
use Rattle.journal.specs.declared.layout.TheConstants.{SECOND_FORMAT}
use Rattle.volume.specs.Store.{IsStore}
use Rattle.record_codec.specs.Bodies.{added_of, body_of}
use Rattle.replica_state.specs.Held.{meaning}
use Rattle.replica_core.specs.Replica.{Found, Known, Stored}
use Rattle.replica_volume.specs.Steps.{steps_of, state_at}
use Rattle.replica_volume.specs.Store.{MayOpenAs}
use Rattle.replica_volume.specs.declared.replica.Volume.{Volume}

-- what is known of the three disks of a volume
abbrev pub devices : {D : Type 0} → (D → Device) → Volume D → Devices
devices known v = disks_known known v.disks

-- the moments are those of the disks, where contracts can see them
abbrev pub moments : Bool → Devices → ℕ
moments tells d = if tells then length d.past else 0

-- the length of an image of this length with the bodies of these steps behind it, and then of this one, where these uids
-- have numbers; an entry has five bytes before its body
abbrev pub length_with : ℕ → List Text → History → Step → ℕ
length_with n us [] y = n + 5 + length (body_of us y)
length_with n us (x ∷ xs) y = length_with (n + 5 + length (body_of us x)) (us ++ added_of us x) xs y

-- what is known of the replica: a step needs the length that the image has with its body, behind all that is staged
abbrev pub volume_known : {D : Type 0} → Bool → (D → Device) → Volume D → Known
volume_known tells known v = record {
  state = v.state;
  need = λ xs y. min (length_with (v.journal.length + length v.staged) v.uids.uids xs y) (2 ^ 64 - 1);
  limit = v.journal.limit;
  faults = (devices known v).faults;
  moment = moments tells (devices known v);
  opened = v.open;
}

-- What an open volume keeps: a store of format 2 stands on its disks, whose bodies say a history; the uids that have
-- numbers are those that the bodies leave, and the state is that of the history. The other image may hold anything.
pub record KeepsHistory {D : Type 0} (v : Volume D) (files : Trio File) : Type 0 where
  pub head : Head
  pub bodies : List (List ℕ)
  pub history : History
  pub stands : IsStore v.journal v.side SECOND_FORMAT head bodies files
  pub says : steps_of SECOND_FORMAT head bodies ≡ Ok (record { steps = history; uids = v.uids.uids })
  pub leaves : meaning v.state ≡ state_at head history

-- it is open, and nothing is staged
pub record IsOpenVolume {D : Type 0} (tells : Bool) (known : D → Device) (v : Volume D) : Type 0 where
  pub ready : v.open ≡ true
  pub image : v.side ≢ Root
  pub nothing : v.staged ≡ []
  pub keeps : IsTrue tells → KeepsHistory v (devices known v).files

-- opening finds this after a crash at the k-th moment
abbrev pub volume_crash : {D : Type 0} → Bool → (D → Device) → Volume D → ℕ → Found Stored → Type 0
volume_crash tells known v k o = IsTrue tells × MayOpenAs (moment_at (devices known v) k) o

-- ---- where the disks are after a call that makes a volume

-- in the volume, or beside the fault
abbrev pub disks_in : {D E : Type 0} → Result (Volume D) (Disks D × E) → Disks D
disks_in (Ok v) = v.disks
disks_in (Err (disks, why)) = disks

abbrev pub fault_in : {D E : Type 0} → Result (Volume D) (Disks D × E) → Result (Unit {0}) E
fault_in (Ok v) = Ok tt
fault_in (Err (disks, why)) = Err why
