-- A call on a replica: what it decides, and what it leaves.
use Rattle.std.specs.Prelude.{◌≡◌, ℕ, ◌<◌, ◌≤◌, Bool, true, false, Option, Some, None, Result, Ok, Err, IfOk, IfErr}
use Rattle.std.specs.Prelude.{[], OnErr, OnOk, IfNone, IfSome, option_to_list}
use Rattle.std.specs.Result.{IsErrAnd}
use Rattle.conflicts.specs.Writing.{Decided, IsAnswer, IsRefusal, step_in}
use Rattle.replica_state.specs.Held.{lists_of}
use Rattle.replica_core.specs.Replica.{AddsOnly, Found, HasFailed, IsLeft, IsTooLong, Known, MayStand, NeedsBehind}
use Rattle.replica_core.specs.Replica.{Stored, after_step, is_disk, state_in, stored_in}
use Rattle.replica_core.specs.declared.fault.CommitFault.{CommitFault}

-- ---- what a call leaves

-- a fault of a call is its refusal, or the failure of its commit, if it stands for one. Then a failure is this
abbrev pub IfFailed : Option CommitFault → (CommitFault → Type 0) → Type 0 → Type 0
IfFailed None P Q = Q
IfFailed (Some failure) P Q = P failure

abbrev pub is_disk_failure : Option CommitFault → Bool
is_disk_failure None = false
is_disk_failure (Some failure) = is_disk failure

-- a call may have written its step where it succeeded, and where a disk failed
abbrev pub may_have_written : {A F : Type 0} → (F → Option CommitFault) → Result A F → Bool
may_have_written failure (Ok answer) = true
may_have_written failure (Err fault) = is_disk_failure (failure fault)

module _ {R : Type 0} (known : R → Known) (is_open : R → Type 0) (crash : R → ℕ → Found Stored → Type 0)
    {A F : Type 0} (failure : F → Option CommitFault) where
  -- a call that decides this on the old replica answers the result and leaves the new one
  pub record IsDone (decided : Decided A F) (old new : R) (result : Result A F) : Type 0 where
    -- Ok: the answer is the decided one, the state is the one after the decided step, and the replica is open
    pub ok : IfOk result (λ answer. IsAnswer decided answer
        × (state_in (known new) ≡ after_step (state_in (known old)) (step_in decided)) × is_open new)
    -- and each step needs now what it needed behind the decided one
    pub need : OnOk result (NeedsBehind (known old) (known new) (option_to_list (step_in decided)))
    -- where no step is decided, nothing happens to the replica
    pub still : IfNone (step_in decided) (new ≡ old)
    -- a refusal is the decided one, and a failure of the commit has its cause
    pub cause : IfErr result
        (λ fault. IfFailed (failure fault) (HasFailed (known old) (known new) (step_in decided))
        (IsRefusal decided fault))
    -- a step that is too long for the image is not made
    pub too_long : IfSome (step_in decided) (λ x. (known old).limit < (known old).need [] x
        → IsErrAnd result (λ fault. IfFailed (failure fault) (IsTooLong (known old) x) ⊥))
    -- a fault leaves the state as it was, and the replica open, unless a disk failed
    pub state : OnErr result (lists_of (known new).state ≡ lists_of (known old).state)
    pub left : IfErr result (λ fault. IsLeft (known old) (known new) (is_open new) (is_disk_failure (failure fault)))
    -- a crash leaves what stood before, or the same after the step where it may have been written
    pub any_moment : AddsOnly known crash old new
        (MayStand (stored_in (known old)) (step_in decided) (may_have_written failure result))
    pub limit : (known new).limit ≡ (known old).limit
    pub later : (known old).faults ≤ (known new).faults
