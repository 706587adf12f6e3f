-- Beside specs/Compacting: words of private contracts and of proofs.
use Rattle.std.specs.Prelude.{◌≡◌, ◌≢◌, ℕ, ◌+◌, ◌-◌, List, [], ◌∷◌, ◌++◌, Bool, map, Result}
use Rattle.std.specs.Prelude.{Ok, Err}
use Rattle.compaction.specs.Compaction.{compaction, left, nothing_later, trimmed}
use Rattle.compaction.specs.Images.{bodies_of, uids_after}
use Rattle.conflicts.specs.State.{History, State, Text}
use Rattle.disk_model.specs.Device.{Device}
use Rattle.journal.specs.Stored.{StoredImage}
use Rattle.journal.specs.declared.layout.TheConstants.{FIRST_FORMAT}
use Rattle.record_codec.specs.Bodies.{Recorded}
use Rattle.record_codec.specs.Laws.{Says}
use Rattle.record_codec.specs.declared.decoding.RecordFault.{RecordFault}
use Rattle.record_codec.specs.declared.decoding.RecordFault.TheVariants as record_fault
use Rattle.replica_state.specs.Steps.{step_of}
use Rattle.replica_state.specs.declared.step.Step.{Step as Held}
use Rattle.volume.specs.Crashes.{OnlyLooks}
use Rattle.replica_volume.specs.inner.Placing.{SaysSteps}
use Rattle.replica_volume.specs.inner.Replaying.{IsBadAt}
use Rattle.replica_volume.specs.Steps.{body_in, steps_of}
use Rattle.replica_volume.specs.Volume.{KeepsHistory, devices}
use Rattle.disks.specs.declared.fault.CompactFault.{CompactFault}
use Rattle.disks.specs.declared.fault.CompactFault.TheVariants as fault
use Rattle.disks.specs.declared.fault.Sizes.{Sizes}
use Rattle.replica_volume.specs.declared.compacting.KeptSteps.{KeptSteps}
use Rattle.replica_volume.specs.declared.replica.Volume.{Volume}
use Rattle.replica_volume.specs.Compacting.{Compacts, LeavesOldOrCompacted}

-- nothing was written, and the volume keeps its history
pub record IsLeftAlone {D : Type 0} (known : D → Device) (old new : Volume D) : Type 0 where
  pub looks : OnlyLooks (devices known old) (devices known new)
  pub keeps : KeepsHistory new (devices known new).files

-- the history was compacted, and the volume keeps the compaction
pub record IsWrittenAnew {D : Type 0} (tells : Bool) (known : D → Device) (old new : Volume D)
    (sizes : Sizes) : Type 0 where
  pub keeps : KeepsHistory new (devices known new).files
  pub compacts : Compacts tells known old new sizes
  pub leaves : LeavesOldOrCompacted (devices known old) (devices known new)

abbrev pub WritesAnew : {D : Type 0} → Bool → (D → Device) → Volume D → Volume D → Result Sizes CompactFault → Type 0
WritesAnew tells known old new (Ok sizes) = IsWrittenAnew tells known old new sizes
WritesAnew tells known old new (Err (fault.Damaged disk place)) = ⊥
WritesAnew tells known old new (Err fault.Disk) = LeavesOldOrCompacted (devices known old) (devices known new)
WritesAnew tells known old new (Err fault.Memory) = IsLeftAlone known old new

-- in format 2 bodies are those of this history, behind this uid, and leave these uids
pub record AreThose (own : Text) (h : History) (bodies : List (List ℕ)) (uids : List Text) : Type 0 where
  pub bodies_are : bodies ≡ bodies_of (own ∷ []) h
  pub uids_are : uids ≡ uids_after (own ∷ []) h

-- all bodies of the image say a history, and of each of its steps there is what this state alone leaves of it
pub record AreKept (s : State) (image : StoredImage) (steps : List Held) : Type 0 where
  pub history : History
  pub uids : List Text
  pub says : SaysSteps image history uids
  pub kept : map step_of steps ≡ trimmed s history
  pub spelled : image.format ≢ FIRST_FORMAT → AreThose image.header.uid history image.bodies uids

abbrev pub KeepsSteps : State → StoredImage → Result (List Held) RecordFault → Type 0
KeepsSteps s image (Ok steps) = AreKept s image steps
KeepsSteps s image (Err (record_fault.Bad place)) = IsBadAt image place
KeepsSteps s image (Err record_fault.Memory) = Unit {0}

-- the first bodies of the image say a history, and of each of its steps there is what the state alone leaves of it
pub record AreKeptSoFar (s : State) (image : StoredImage) (bodies : List (List ℕ)) (k : KeptSteps) : Type 0 where
  pub history : History
  pub says : steps_of image.format image.header bodies ≡ Ok (record { steps = history; uids = k.uids.uids })
  pub kept : map step_of k.steps ≡ trimmed s history
  pub spelled : image.format ≢ FIRST_FORMAT → AreThose image.header.uid history bodies k.uids.uids

-- of all its bodies
abbrev pub KeepsAll : State → StoredImage → KeptSteps → Result (Unit {0}) RecordFault → Type 0
KeepsAll s image k (Ok done) = AreKept s image k.steps
KeepsAll s image k (Err (record_fault.Bad place)) = IsBadAt image place
KeepsAll s image k (Err record_fault.Memory) = Unit {0}

-- there is what the state leaves of the step that a body says, and the uids that it adds got numbers
pub record IsOneKept (s : State) (format : ℕ) (body : List ℕ) (old new : KeptSteps) : Type 0 where
  pub said : Recorded
  pub reads : body_in format old.uids.uids body ≡ Ok said
  pub spelled : format ≢ FIRST_FORMAT → Says old.uids.uids body said
  pub uids : new.uids.uids ≡ old.uids.uids ++ said.added
  pub steps : map step_of new.steps ≡ map step_of old.steps ++ left s nothing_later said.step

-- or the body, which begins at this place of the file, has no reading
abbrev pub KeepsOne : State → ℕ → ℕ → List ℕ → KeptSteps → KeptSteps → Result (Unit {0}) RecordFault → Type 0
KeepsOne s format start body old new (Ok done) = IsOneKept s format body old new
KeepsOne s format start body old new (Err (record_fault.Bad place)) =
    (at : ℕ) × (body_in format old.uids.uids body ≡ Err at) × (place ≡ start + at)
KeepsOne s format start body old new (Err record_fault.Memory) = Unit {0}
