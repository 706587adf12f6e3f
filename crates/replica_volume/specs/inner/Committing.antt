-- What a step needs that is committed or staged, and what is said of both.
use Rattle.std.specs.Prelude.{◌≡◌, ◌≢◌, ◌^◌, ◌<◌, ◌≤◌, [], ◌∷◌, ◌++◌, Bool, IsTrue, false, length, Some, Result, Ok, Err}
use Rattle.std.specs.Prelude.{IfErr, IsErrAnd, OnErr, OnOk}
use Rattle.conflicts.specs.State.{History, State, Step, after}
use Rattle.disk_model.specs.Counts.{called}
use Rattle.disk_model.specs.Device.{Device}
use Rattle.disks.specs.Joint.{seen_of}
use Rattle.journal.specs.declared.appending.AppendFault.{AppendFault}
use Rattle.journal.specs.declared.appending.AppendFault.TheVariants as append
use Rattle.record_codec.specs.Bodies.{added_of, body_of, step_in}
use Rattle.record_codec.specs.Encoding.{written}
use Rattle.record_codec.specs.declared.encoding.Encoded.{Encoded}
use Rattle.record_fields.specs.Table.{AreNumbered}
use Rattle.replica_core.specs.Replica.{AddsOnly, HasFailed, IsLeft, IsTooLong, MayStand, NeedsBehind, StandsAs, is_disk}
use Rattle.replica_core.specs.Replica.{may_be_written, stored_as, stored_in}
use Rattle.replica_core.specs.declared.fault.CommitFault.{CommitFault}
use Rattle.replica_core.specs.declared.fault.CommitFault.TheVariants as commit
use Rattle.replica_state.specs.Held.{lists_of, meaning}
use Rattle.replica_state.specs.Prepared.{IsPartsOf, IsReady}
use Rattle.replica_state.specs.Steps.{step_of}
use Rattle.replica_state.specs.declared.step.Step.{Step as Held}
use Rattle.replica_volume.specs.Keeping.{HoldsMore, LeavesOldOrMore}
use Rattle.replica_volume.specs.Staging.{IsStagedVolume, StagesSteps}
use Rattle.replica_volume.specs.Store.{store_of}
use Rattle.replica_volume.specs.Volume.{IsOpenVolume, devices, volume_crash, volume_known}
use Rattle.replica_volume.specs.declared.committing.Ready.{Ready}
use Rattle.replica_volume.specs.declared.replica.Volume.{Volume}

-- ---- no disk was called

-- nothing has changed but the room for a step
pub record IsAsBefore {D : Type 0} (old new : Volume D) : Type 0 where
  pub disks : new.disks ≡ old.disks
  pub side : new.side ≡ old.side
  pub journal : new.journal ≡ old.journal
  pub opened : new.open ≡ old.open
  pub staged : new.staged ≡ old.staged
  pub uids : new.uids.uids ≡ old.uids.uids
  pub lists : lists_of new.state ≡ lists_of old.state

-- the body of the step is spelled, and there is room for its uids
pub record IsSpelled {D : Type 0} (v : Volume D) (step : Held) (e : Encoded) : Type 0 where
  pub body : e.bytes ≡ body_of v.uids.uids (step_of step)
  pub added : e.added ≡ added_of v.uids.uids (step_of step)
  pub says : step_in v.uids.uids e.bytes ≡ Ok (written step e.added)
  pub some : 1 ≤ length e.bytes
  pub short : length e.bytes < 2 ^ 32
  pub numbered : AreNumbered (v.uids.uids ++ e.added)
  pub room : length e.added ≤ v.uids.room

-- the volume can take what is ready: its body fits an entry, and there is room for its uids and its parts of the state
pub record CanTake {D : Type 0} (v : Volume D) (r : Ready) : Type 0 where
  pub some : 1 ≤ length r.encoded.bytes
  pub short : length r.encoded.bytes < 2 ^ 32
  pub numbered : AreNumbered (v.uids.uids ++ r.encoded.added)
  pub room : length r.encoded.added ≤ v.uids.room
  pub parts : IsReady v.state r.prepared

-- it is what this step needs
pub record IsOfStep {D : Type 0} (v : Volume D) (step : Held) (r : Ready) : Type 0 where
  pub body : r.encoded.bytes ≡ body_of v.uids.uids (step_of step)
  pub added : r.encoded.added ≡ added_of v.uids.uids (step_of step)
  pub says : step_in v.uids.uids r.encoded.bytes ≡ Ok (written step r.encoded.added)
  pub parts : IsPartsOf v.state step r.prepared

-- ---- the body was added, or was not

-- the fault of a step whose body was not added
abbrev pub fault_adding : AppendFault → CommitFault
fault_adding (append.Full need limit) = commit.Full need limit
fault_adding append.Disk = commit.Disk
fault_adding append.Memory = commit.Memory

-- the volume is closed where a disk failed
abbrev pub opened_behind : AppendFault → Bool → Bool
opened_behind (append.Full need limit) was = was
opened_behind append.Disk was = false
opened_behind append.Memory was = was

-- all that a commit of this step says
pub record Commits {D : Type 0} (tells : Bool) (known : D → Device) (old new : Volume D) (x : Step)
    (result : Result (Unit {0}) CommitFault) : Type 0 where
  pub ok : OnOk result ((meaning new.state ≡ after (meaning old.state) x) × IsOpenVolume tells known new)
  pub need : OnOk result (NeedsBehind (volume_known tells known old) (volume_known tells known new) (x ∷ []))
  pub cause : IfErr result (HasFailed (volume_known tells known old) (volume_known tells known new) (Some x))
  pub too_long : (volume_known tells known old).limit < (volume_known tells known old).need [] x
      → IsErrAnd result (IsTooLong (volume_known tells known old) x)
  pub state : OnErr result (lists_of new.state ≡ lists_of old.state)
  pub left : IfErr result (λ fault. IsLeft (volume_known tells known old) (volume_known tells known new)
      (IsOpenVolume tells known new) (is_disk fault))
  pub any_moment : AddsOnly (volume_known tells known) (volume_crash tells known) old new
      (MayStand (stored_in (volume_known tells known old)) (Some x) (may_be_written result))
  pub limit : new.journal.limit ≡ old.journal.limit
  pub later : (volume_known tells known old).faults ≤ (volume_known tells known new).faults
  pub history : IsTrue tells → OnOk result (HoldsMore (x ∷ []) (store_of (seen_of (devices known old).files))
      (store_of (seen_of (devices known new).files)))
  pub any_history : IsTrue tells → LeavesOldOrMore (x ∷ []) (devices known old) (devices known new)
  pub calls : OnOk result ((devices known new).made ≡ called 4 (devices known old).made)
  pub most_calls : (devices known new).made ≤ called 4 (devices known old).made
  pub untouched : OnErr result (result ≢ Err commit.Disk → devices known new ≡ devices known old)

-- the same of each step for which this was made ready, and of the volume before that
abbrev pub WritesStep : {D : Type 0} → Bool → (D → Device) → Volume D → Ready → Volume D
    → Result (Unit {0}) CommitFault → Type 0
WritesStep {D} tells known mid ready new result =
    (old : Volume D) (step : Held) → IsAsBefore old mid → IsOpenVolume tells known old → IsOfStep mid step ready
    → Commits tells known old new (step_of step) result

-- all that a staging of this step says
pub record Takes {D : Type 0} (tells : Bool) (known : D → Device) (old new : Volume D) (x : Step)
    (result : Result (Unit {0}) CommitFault) : Type 0 where
  pub ok : OnOk result (meaning new.state ≡ after (meaning old.state) x)
  pub need : OnOk result (NeedsBehind (volume_known tells known old) (volume_known tells known new) (x ∷ []))
  pub stays : (kept : State) → IsStagedVolume tells known old kept → IsStagedVolume tells known new kept
  pub cause : IfErr result (HasFailed (volume_known tells known old) (volume_known tells known new) (Some x))
  pub no_disk : result ≢ Err commit.Disk
  pub too_long : (volume_known tells known old).limit < (volume_known tells known old).need [] x
      → IsErrAnd result (IsTooLong (volume_known tells known old) x)
  pub state : OnErr result (lists_of new.state ≡ lists_of old.state)
  pub left : OnErr result (NeedsBehind (volume_known tells known old) (volume_known tells known new) [])
  pub any_moment : (kept : State) → IsStagedVolume tells known old kept
      → AddsOnly (volume_known tells known) (volume_crash tells known) old new
      (StandsAs (stored_as (volume_known tells known old) kept))
  pub limit : new.journal.limit ≡ old.journal.limit
  pub untouched : devices known new ≡ devices known old
  pub taken : IsTrue tells → OnOk result ((later : History) → StagesSteps old (devices known old).files later
      → StagesSteps new (devices known new).files (later ++ x ∷ []))
  pub refused : IsTrue tells → OnErr result ((later : History) → StagesSteps old (devices known old).files later
      → StagesSteps new (devices known new).files later)

abbrev pub HoldsStep : {D : Type 0} → Bool → (D → Device) → Volume D → Ready → Volume D
    → Result (Unit {0}) CommitFault → Type 0
HoldsStep {D} tells known mid ready new result =
    (old : Volume D) (step : Held) → IsAsBefore old mid → IsOfStep mid step ready
    → Takes tells known old new (step_of step) result
