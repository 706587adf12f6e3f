-- Calls that stage their steps: what one of them leaves, and what several leave, some of them flushed.
use Rattle.std.specs.Prelude.{◌≡◌, ℕ, ◌≤◌, ◌++◌, false, Option, Result, IfErr}
use Rattle.conflicts.specs.State.{History, State, after_all}
use Rattle.conflicts.specs.Writing.{Decided}
use Rattle.replica_core.specs.Replica.{AddsOnly, Found, Known, NeedsBehind, StandsAs, Stored, state_in, stored_as}
use Rattle.replica_core.specs.Replica.{stored_in}
use Rattle.replica_core.specs.Calls.{IsDone, is_disk_failure}
use Rattle.replica_core.specs.Runs.{StandsAfterFirst}
use Rattle.replica_core.specs.declared.fault.CommitFault.{CommitFault}

abbrev pub no_crash : {R : Type 0} → R → ℕ → Found Stored → Type 0
no_crash r k found = ⊥

module _ {R : Type 0} (known : R → Known) (stages : R → State → Type 0) (crash : R → ℕ → Found Stored → Type 0)
    {A F : Type 0} (failure : F → Option CommitFault) where
  -- it decides and answers as a call that commits, and makes the same step. But no disk is called, and a crash leaves
  -- the state that is kept
  pub record IsStaged (decided : Decided A F) (kept : State) (old new : R) (result : Result A F) : Type 0 where
    pub done : IsDone known (λ r. stages r kept) no_crash failure decided old new result
    pub any_moment : AddsOnly known crash old new (StandsAs (stored_as (known old) kept))
    pub no_disk : IfErr result (λ fault. is_disk_failure (failure fault) ≡ false)
    pub faults : (known new).faults ≡ (known old).faults

  -- whatever is kept
  abbrev pub Stages : Decided A F → R → R → Result A F → Type 0
  Stages decided old new result = (kept : State) → stages old kept → IsStaged decided kept old new result

module _ {R : Type 0} (known : R → Known) (stages : R → State → Type 0) (crash : R → ℕ → Found Stored → Type 0) where
  -- Since the first replica these steps were made, of which some first ones are flushed: the state is the one after all
  -- of them, each further step needs what it needed behind them, and a crash leaves the state after those that are
  -- flushed. On the way a crash left the one after some first of the steps.
  pub record HasStaged (first now : R) (steps : History) : Type 0 where
    pub flushed : History
    pub staged : History
    pub are : steps ≡ flushed ++ staged
    pub state : state_in (known now) ≡ after_all (state_in (known first)) steps
    pub need : NeedsBehind (known first) (known now) steps
    pub kept : stages now (after_all (state_in (known first)) flushed)
    pub any_moment : AddsOnly known crash first now (StandsAfterFirst (stored_in (known first)) steps)
    pub limit : (known now).limit ≡ (known first).limit
    pub faults : (known first).faults ≤ (known now).faults
