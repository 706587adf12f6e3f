-- A replica as contracts see it: what is known of it, what its calls leave, and what a crash leaves of it.
use Rattle.std.specs.Prelude.{◌≡◌, ℕ, ◌<◌, ◌≤◌, ◌⊎◌, Bool, true, false, IsTrue, [], ◌++◌, Option, Some, None}
use Rattle.std.specs.Prelude.{Result, Ok, Err}
use Rattle.u1_base.specs.Causes.{Rose}
use Rattle.conflicts.specs.State.{History, State, Step, after}
use Rattle.replica_state.specs.Held.{Held, meaning}
use Rattle.replica_core.specs.declared.fault.CommitFault.{CommitFault}
use Rattle.replica_core.specs.declared.fault.CommitFault.TheVariants.{Full, Disk, Memory}

-- ---- what is known

-- what opening a store finds: nothing, something that does not read, or what stands there
pub data Found (S : Type 0) : Type 0 where
  Blank : Found S
  Damaged : Found S
  Stands : S → Found S

-- what a store stands for: a state, and the greatest length that its image may have
pub record Stored : Type 0 where
  pub state : State
  pub limit : ℕ

-- what is known of a replica: its state, the length in bytes that a step would give its image behind further steps, the
-- greatest length that the image may have, how often its disks failed, the number of moments so far, and whether it is
-- open. The length counts what is staged
pub record Known : Type 0 where
  pub state : Held
  pub need : History → Step → ℕ
  pub limit : ℕ
  pub faults : ℕ
  pub moment : ℕ
  pub opened : Bool

-- the state that it stands for
abbrev pub state_in : Known → State
state_in r = meaning r.state

-- this state, under the replica's limit
abbrev pub stored_as : Known → State → Stored
stored_as r s = record { state = s; limit = r.limit }

-- what it stands for
abbrev pub stored_in : Known → Stored
stored_in r = stored_as r (state_in r)

-- each step needs now what it needed behind these steps
abbrev pub NeedsBehind : Known → Known → History → Type 0
NeedsBehind old new steps = (xs : History) (y : Step) → new.need xs y ≡ old.need (steps ++ xs) y

-- ---- a step, if there is one

-- there is a step, and P holds of it
abbrev pub HasStep : Option Step → (Step → Type 0) → Type 0
HasStep None P = ⊥
HasStep (Some x) P = P x

-- the state after the step, if there is one
abbrev pub after_step : State → Option Step → State
after_step s None = s
after_step s (Some x) = after s x

-- and what the store stands for then
abbrev pub stored_after : Stored → Option Step → Stored
stored_after s step = record { state = after_step s.state step; limit = s.limit }

-- ---- what a call leaves

-- why a step is not made. `Full` carries both numbers. `Memory` is the one fault of which no cause is said
abbrev pub HasFailed : Known → Known → Option Step → CommitFault → Type 0
HasFailed old new step (Full need limit) =
    HasStep step (λ x. (need ≡ old.need [] x) × (limit ≡ old.limit) × (old.limit < old.need [] x))
HasFailed old new step Disk = HasStep step (λ x. Rose old.faults new.faults)
HasFailed old new step Memory = Unit {0}

abbrev pub is_disk : CommitFault → Bool
is_disk (Full need limit) = false
is_disk Disk = true
is_disk Memory = false

-- a step that does not fit into the image is not made
abbrev pub IsTooLong : Known → Step → CommitFault → Type 0
IsTooLong old x fault = (fault ≡ Full (old.need [] x) old.limit) ⊎ (fault ≡ Memory)

-- a replica that a disk failed is closed. Else it stays open, and each step needs what it needed before
abbrev pub IsLeft : Known → Known → Type 0 → Bool → Type 0
IsLeft old new is_open false = is_open × NeedsBehind old new []
IsLeft old new is_open true = new.opened ≡ false

-- only a disk's failure keeps staged steps from being flushed, and it closes the replica
abbrev pub IsUnflushed : Known → Known → CommitFault → Type 0
IsUnflushed old new (Full need limit) = ⊥
IsUnflushed old new Disk = Rose old.faults new.faults × (new.opened ≡ false)
IsUnflushed old new Memory = ⊥

-- ---- what a crash leaves

-- what stood before, and, where the step may have been written, the same after it
abbrev pub MayStand : Stored → Option Step → Bool → Found Stored → Type 0
MayStand s step written found = (found ≡ Stands s) ⊎ (IsTrue written × (found ≡ Stands (stored_after s step)))

-- while steps are staged: what was flushed last
abbrev pub StandsAs : Stored → Found Stored → Type 0
StandsAs s found = found ≡ Stands s

-- while they are flushed: that, or what stands after all that was staged
abbrev pub StandsAsEither : Stored → Stored → Found Stored → Type 0
StandsAsEither s t found = (found ≡ Stands s) ⊎ (found ≡ Stands t)

-- a commit may have written its step where it succeeded, and where a disk failed
abbrev pub may_be_written : {A : Type 0} → Result A CommitFault → Bool
may_be_written (Ok answer) = true
may_be_written (Err fault) = is_disk fault

module _ {R : Type 0} (known : R → Known) (crash : R → ℕ → Found Stored → Type 0) where
  -- a crash at a moment from the old one to the new one leaves only what P allows, and one at an earlier moment leaves
  -- no more than it left before
  pub record AddsOnly (old new : R) (P : Found Stored → Type 0) : Type 0 where
    pub later : (known old).moment ≤ (known new).moment
    pub same : (k : ℕ) (o : Found Stored) → k < (known old).moment → crash new k o → crash old k o
    pub added : (k : ℕ) (o : Found Stored) → (known old).moment ≤ k → k ≤ (known new).moment → crash new k o → P o
