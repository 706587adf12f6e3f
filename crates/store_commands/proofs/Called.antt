-- A command that makes one writing call, by what the call did.
use Rattle.std.proofs.Common.{◌≡◌, ℕ, [], ◌++◌, Option, Some, None, Result, Ok, Err, refl, sym, ap, ◌∙◌, subst, ⊎_elim}
use Rattle.std.proofs.Common.{append-nil}
use Rattle.conflicts.specs.State.{Step}
use Rattle.link.specs.Streams.{Output}
use Rattle.conflicts.specs.Writing.{Answers, Decided, IsRefusal, Refuses, step_in}
use Rattle.replica_core.specs.Calls.{IfFailed, IsDone}
use Rattle.replica_core.specs.CallsFaults.{index_failure, put_failure, resolve_failure}
use Rattle.replica_core.specs.Commands.Effects.{Line, calls}
use Rattle.replica_core.specs.Commands.Effects.{Refusal as CommandRefusal}
use Rattle.replica_core.specs.Replica.{Found as Left, HasFailed, IsTooLong, Known, Stands as LeftStands, Stored}
use Rattle.replica_core.specs.Replica.{stored_in}
use Rattle.replica_core.specs.declared.calls.documents.PutFault.{PutFault}
use Rattle.replica_core.specs.declared.calls.documents.PutFault.TheVariants as put
use Rattle.replica_core.specs.declared.calls.indexes.IndexFault.{IndexFault}
use Rattle.replica_core.specs.declared.calls.indexes.IndexFault.TheVariants as index
use Rattle.replica_core.specs.declared.calls.resolutions.ResolveDocFault.{ResolveDocFault}
use Rattle.replica_core.specs.declared.calls.resolutions.ResolveDocFault.TheVariants as resolve
use Rattle.replica_core.specs.declared.fault.CommitFault.{CommitFault}
use Rattle.replica_core.specs.declared.fault.CommitFault.TheVariants.{Full, Disk, Memory}
use Rattle.command_lines.specs.Lines.{line_text}
use Rattle.command_lines.specs.Outcomes.{index_end, print_end, put_end, refusal_end, resolve_end}
use Rattle.command_lines.specs.Puts.{Puts}
use Rattle.command_lines.specs.declared.put.PrintFault.{PrintFault}
use Rattle.command_lines.specs.declared.outcome.Outcome.{Outcome}
use Rattle.command_lines.specs.declared.outcome.Outcome.TheVariants.{Refused, StoreFull, DiskFault}
use Rattle.command_lines.specs.declared.outcome.Outcome.TheVariants as outcome
use Rattle.store_commands.specs.inner.Calls.{EndsSo}
use Rattle.store_commands.specs.Carries.{Carries}
use Rattle.store_commands.specs.Deeds.{ended, over_replica}
use Rattle.store_commands.specs.Prints.{PutsPart}
use Rattle.store_commands.proofs.Printing.{part_of}
use Rattle.store_commands.proofs.Exits.{committed, disk_failed, gave_up, only_printed, refused, starved, too_long}

-- ---- how the faults of the calls end a run

pub put_ends : (fault : PutFault) → EndsSo (put_failure fault) (put_end fault)
put_ends put.NoDocument = (_, refl)
put_ends put.Conflicted = (_, refl)
put_ends (put.RevisionConflict current) = (_, refl)
put_ends put.AlreadyDeleted = (_, refl)
put_ends put.ClockFull = (_, refl)
put_ends (put.Full need limit) = refl
put_ends put.Disk = refl
put_ends put.Memory = refl

pub resolve_ends : (fault : ResolveDocFault) → EndsSo (resolve_failure fault) (resolve_end fault)
resolve_ends resolve.NoDocument = (_, refl)
resolve_ends resolve.NotConflicted = (_, refl)
resolve_ends resolve.NothingNamed = (_, refl)
resolve_ends (resolve.Unnamed leader) = (_, refl)
resolve_ends resolve.ClockFull = (_, refl)
resolve_ends (resolve.Full need limit) = refl
resolve_ends resolve.Disk = refl
resolve_ends resolve.Memory = refl

pub index_ends : (fault : IndexFault) → EndsSo (index_failure fault) (index_end fault)
index_ends index.IndexTaken = (_, refl)
index_ends index.IndexUnknown = (_, refl)
index_ends (index.Full need limit) = refl
index_ends index.Disk = refl
index_ends index.Memory = refl

-- ---- one call

module _ {R A F : Type 0} (known : R → Known) (is_open : R → Type 0) (crash : R → ℕ → Left Stored → Type 0)
    (settled : (r : R) (o : Left Stored) → is_open r → crash r (known r).moment o → o ≡ LeftStands (stored_in (known r)))
    (failure : F → Option CommitFault) (end_of : F → Outcome)
    (ends : (fault : F) → EndsSo (failure fault) (end_of fault))
    (line : A → Line) (refusal : F → CommandRefusal) (told : (fault : F) → refusal_end (refusal fault) ≡ end_of fault)
    (old new : R) (out_before out_after : Output) where
  -- the replica is the one that it was
  still : (a : Decided A F) (result : Result (Unit {0}) Outcome) → new ≡ old
      → Carries known is_open crash (over_replica (calls line refusal a)) old old out_before out_after result
      → Carries known is_open crash (over_replica (calls line refusal a)) old new out_before out_after result
  still a result same carries =
      subst (λ (r : R). Carries known is_open crash (over_replica (calls line refusal a)) old r out_before out_after result)
      (sym same) carries

  -- the call was made, and its answer is printed
  pub called : (decided : Decided A F) (answer : A) (result : Result (Unit {0}) Outcome) → is_open old
      → IsDone known is_open crash failure decided old new (Ok answer)
      → PutsPart (line_text (line answer)) out_before out_after result
      → Carries known is_open crash (over_replica (calls line refusal decided)) old new out_before out_after result
  called (Refuses fault) answer result ready done puts = absurd done.ok.0
  called (Answers given None) answer result ready done puts =
      still (Answers given None) result done.still
      (only_printed known is_open crash settled _
      (line_text (line given) ++ []) old out_before out_after result ready refl
      (rw (append-nil (line_text (line given)), sym done.ok.0) puts))
  called (Answers given (Some x)) answer result ready done puts =
      committed known is_open crash settled x old new done.limit done.later _
      (line_text (line given) ++ []) out_before out_after result
      refl done.too_long done.ok.2 done.ok.1 done.need done.any_moment
      (rw (append-nil (line_text (line given)), sym done.ok.0) puts)

  -- the call was made, and its answer was not printed whole
  pub called_broken : (decided : Decided A F) (answer : A) (fault : PrintFault) → is_open old
      → IsDone known is_open crash failure decided old new (Ok answer)
      → Puts (line_text (line answer)) out_before out_after (Err fault)
      → Carries known is_open crash (over_replica (calls line refusal decided)) old new out_before out_after
      (Err (print_end fault))
  called_broken decided answer fault ready done puts =
      called decided answer (Err (print_end fault)) ready done
      (part_of (line_text (line answer)) out_before out_after fault puts)

-- the call was not made, and nothing is printed
module _ {R A F : Type 0} (known : R → Known) (is_open : R → Type 0) (crash : R → ℕ → Left Stored → Type 0)
    (settled : (r : R) (o : Left Stored) → is_open r → crash r (known r).moment o → o ≡ LeftStands (stored_in (known r)))
    (failure : F → Option CommitFault) (end_of : F → Outcome)
    (ends : (fault : F) → EndsSo (failure fault) (end_of fault))
    (line : A → Line) (refusal : F → CommandRefusal) (told : (fault : F) → refusal_end (refusal fault) ≡ end_of fault)
    (old new : R) (out : Output) where
  abbrev Ends : Decided A F → Outcome → Type 0
  Ends decided end = Carries known is_open crash (over_replica (calls line refusal decided)) old new out out (Err end)

  resting : (decided : Decided A F) (end : Outcome) → new ≡ old
      → Carries known is_open crash (over_replica (calls line refusal decided)) old old out out (Err end) → Ends decided end
  resting decided end same carries =
      subst (λ (r : R). Carries known is_open crash (over_replica (calls line refusal decided)) old r out out (Err end))
      (sym same) carries

  -- a disk's failure is no step that is too long
  no_disk : (k : Known) (x : Step) → IsTooLong k x Disk → ⊥
  no_disk k x long = ⊎_elim (λ full. cc full) (λ memory. cc memory) long

  -- by the failure, if the fault stands for one
  failed_as : (found : Option CommitFault) (decided : Decided A F) (fault : F) → failure fault ≡ found → is_open old
      → IsDone known is_open crash failure decided old new (Err fault) → EndsSo found (end_of fault)
      → IfFailed found (HasFailed (known old) (known new) (step_in decided)) (IsRefusal decided fault)
      → Ends decided (end_of fault)
  failed_as None (Refuses given) fault is ready done ends cause =
      rw ends.1 (resting (Refuses given) (Refused ends.0) done.still
      (refused known is_open crash settled _ ends.0 old out ready
      (ap ended (told given ∙ ap end_of (sym cause) ∙ ends.1))))
  failed_as None (Answers given step) fault is ready done ends cause = absurd cause
  failed_as (Some Memory) (Refuses given) fault is ready done ends cause =
      rw ends (resting (Refuses given) outcome.Memory done.still (starved known is_open crash settled _ old out ready))
  failed_as (Some Memory) (Answers given None) fault is ready done ends cause =
      rw ends (resting (Answers given None) outcome.Memory done.still
      (starved known is_open crash settled _ old out ready))
  failed_as (Some Memory) (Answers given (Some x)) fault is ready done ends cause =
      rw ends (gave_up known is_open crash settled x old new done.limit done.later _ _ out refl
      (rw is at done.left).0 (rw is at done.left).1 done.state (rw is at done.any_moment))
  failed_as (Some Disk) (Refuses given) fault is ready done ends cause = absurd cause
  failed_as (Some Disk) (Answers given None) fault is ready done ends cause = absurd cause
  failed_as (Some Disk) (Answers given (Some x)) fault is ready done ends cause =
      rw ends (disk_failed known is_open crash settled x old new done.limit done.later _ _ out refl
      (λ over. no_disk (known old) x (rw is at (done.too_long over))) done.state (rw is at done.any_moment) cause)
  failed_as (Some (Full need limit)) (Refuses given) fault is ready done ends cause = absurd cause
  failed_as (Some (Full need limit)) (Answers given None) fault is ready done ends cause = absurd cause
  failed_as (Some (Full need limit)) (Answers given (Some x)) fault is ready done ends cause =
      rw ends (too_long known is_open crash settled x old new done.limit done.later _ _ need limit out refl
      (rw is at done.left).0 (rw is at done.left).1 done.state (rw is at done.any_moment) cause)

  pub failed : (decided : Decided A F) (fault : F) → is_open old
      → IsDone known is_open crash failure decided old new (Err fault)
      → Carries known is_open crash (over_replica (calls line refusal decided)) old new out out (Err (end_of fault))
  failed decided fault ready done = failed_as (failure fault) decided fault refl ready done (ends fault) done.cause
