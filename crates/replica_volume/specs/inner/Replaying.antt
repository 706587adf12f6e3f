-- What going through the bodies of an image leaves.
use Rattle.std.specs.Prelude.{◌≡◌, ℕ, ◌+◌, List, ◌++◌, length, Result, Ok, Err}
use Rattle.conflicts.specs.State.{History, State, Text, after}
use Rattle.disks.specs.declared.name.DiskName.{DiskName}
use Rattle.journal.specs.Image.{header_bytes}
use Rattle.journal.specs.Stored.{StoredImage}
use Rattle.replica_state.specs.Replayed.{replayed}
use Rattle.record_codec.specs.Bodies.{Recorded}
use Rattle.record_codec.specs.Decoding.{recorded}
use Rattle.record_codec.specs.declared.decoding.Decoded.{Decoded}
use Rattle.record_codec.specs.declared.decoding.RecordFault.{RecordFault}
use Rattle.record_codec.specs.declared.decoding.RecordFault.TheVariants as record_fault
use Rattle.replica_volume.specs.Steps.{steps_of, state_at}
use Rattle.disks.specs.declared.fault.OpenFault.{OpenFault}
use Rattle.disks.specs.declared.fault.OpenFault.TheVariants as fault
use Rattle.replica_volume.specs.declared.replaying.Made.{Made}

-- what a body says, which begins at this place of the file; or the place of its first field that has no reading
abbrev pub DecodesAt : ℕ → Result Recorded ℕ → Result Decoded RecordFault → Type 0
DecodesAt start read (Ok d) = read ≡ Ok (recorded d)
DecodesAt start read (Err (record_fault.Bad place)) = (at : ℕ) × (read ≡ Err at) × (place ≡ start + at)
DecodesAt start read (Err record_fault.Memory) = Unit {0}

-- these bodies of the image say a history, which leaves this state and these uids
pub record Leave (image : StoredImage) (bodies : List (List ℕ)) (state : State) (uids : List Text) : Type 0 where
  pub history : History
  pub says : steps_of image.format image.header bodies ≡ Ok (record { steps = history; uids = uids })
  pub leaves : state ≡ state_at image.header history

-- those whose steps were made
abbrev pub AreMade : StoredImage → List (List ℕ) → Made → Type 0
AreMade image bodies m = Leave image bodies (replayed m.steps) m.uids.uids

-- one of its bodies has no reading, at this place of the file
pub record IsBadAt (image : StoredImage) (place : ℕ) : Type 0 where
  pub at : ℕ
  pub bad : steps_of image.format image.header image.bodies ≡ Err at
  pub there : place ≡ length (header_bytes image.format image.header) + at

-- all its bodies were made steps; or one has no reading, at the place
abbrev pub Replays : StoredImage → Result Made RecordFault → Type 0
Replays image (Ok m) = AreMade image image.bodies m
Replays image (Err (record_fault.Bad place)) = IsBadAt image place
Replays image (Err record_fault.Memory) = Unit {0}

-- the same of the steps that were made so far
abbrev pub MakesAll : StoredImage → Made → Result (Unit {0}) RecordFault → Type 0
MakesAll image made (Ok done) = AreMade image image.bodies made
MakesAll image made (Err (record_fault.Bad place)) = IsBadAt image place
MakesAll image made (Err record_fault.Memory) = Unit {0}

-- the step that a body says was made, and the uids that it adds got numbers
pub record IsOneMade (read : Result Recorded ℕ) (old new : Made) : Type 0 where
  pub said : Recorded
  pub reads : read ≡ Ok said
  pub uids : new.uids.uids ≡ old.uids.uids ++ said.added
  pub state : replayed new.steps ≡ after (replayed old.steps) said.step

-- or the body, which begins at this place of the file, has no reading
abbrev pub MakesOne : ℕ → Result Recorded ℕ → Made → Made → Result (Unit {0}) RecordFault → Type 0
MakesOne start read old new (Ok done) = IsOneMade read old new
MakesOne start read old new (Err (record_fault.Bad place)) = (at : ℕ) × (read ≡ Err at) × (place ≡ start + at)
MakesOne start read old new (Err record_fault.Memory) = Unit {0}

-- the same of an image on this side
abbrev pub ReplaysOn : DiskName → StoredImage → Result Made OpenFault → Type 0
ReplaysOn side image (Ok m) = AreMade image image.bodies m
ReplaysOn side image (Err (fault.Damaged disk place)) = (disk ≡ side) × IsBadAt image place
ReplaysOn side image (Err fault.Memory) = Unit {0}
ReplaysOn side image (Err fault.Blank) = ⊥
ReplaysOn side image (Err fault.Disk) = ⊥
