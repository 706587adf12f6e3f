-- The calls of a store that is not open: opening it, making it, and closing it.
use Rattle.std.specs.Prelude.{◌≡◌, ℕ, Bool, true, false, List, [], ◌∷◌, Option, Some, None, Result, Ok, Err}
use Rattle.u1_base.specs.Causes.{Rose}
use Rattle.conflicts.specs.State.{Text, state_of}
use Rattle.disks.specs.declared.fault.MakeFault.{MakeFault}
use Rattle.disks.specs.declared.fault.MakeFault.TheVariants as make_fault
use Rattle.disks.specs.declared.fault.OpenFault.{OpenFault}
use Rattle.disks.specs.declared.fault.OpenFault.TheVariants as open_fault
use Rattle.vector_rev.specs.Counts.{Uid}
use Rattle.replica_core.specs.Replica.{Found as Left, Known, Stands as LeftStands, Stored}
use Rattle.store_commands.specs.Changes.{Change, IsNeeded, IsSettled, Made, Passes}
use Rattle.store_commands.specs.Found.{Blank, Damaged, Found, IsTold, IsUntouched, Stands, Store, in_short}
use Rattle.store_commands.specs.Found.{opened_as, standing_in}

-- what is told of the store is one of what a crash now may leave
abbrev pub MayStay : Store → Option Found → Type 0
MayStay store None = Unit {0}
MayStay store (Some told) = store.crash store.moment (in_short told)

-- What stands is what stood, each step needs what it needed, and a crash on the way leaves what one might have left
-- before, or just that. The bytes may be others: opening writes an image of an earlier format anew.
pub record Keeps (found : Found) (before after : Store) : Type 0 where
  pub passes : Passes found [] 0 0 before after
  pub need : IsNeeded found [] after.found

-- ---- opening

-- it stands, and is open now
pub record Opens (before : Store) (known : Known) (crash : ℕ → Left Stored → Type 0) (is_open : Type 0) : Type 0 where
  pub told : IsTold before.found (Stands (standing_in known))
  pub keeps : Keeps (Stands (standing_in known)) before (opened_as known crash)
  pub opened : is_open

-- what a store was that was not opened, whichever it was where only a disk failed or memory ran out
pub record FindsSome (before after : Store) : Type 0 where
  pub found : Found
  pub told : IsTold before.found found
  pub keeps : Keeps found before after

-- it was found as this, and only read
pub record Finds (found : Found) (before after : Store) : Type 0 where
  pub told : IsTold before.found found
  pub keeps : Keeps found before after
  pub untouched : IsUntouched before after

abbrev pub FailsToOpen : Store → Store → OpenFault → Type 0
FailsToOpen before after open_fault.Blank = Finds Blank before after
FailsToOpen before after (open_fault.Damaged disk place) = Finds (Damaged disk place) before after
FailsToOpen before after open_fault.Disk = FindsSome before after × Rose before.faults after.faults
FailsToOpen before after open_fault.Memory = FindsSome before after × IsUntouched before after

-- ---- making

abbrev pub is_blank : Found → Bool
is_blank Blank = true
is_blank (Damaged disk place) = false
is_blank (Stands x) = false

-- the changes of making a store: none, where there is one
abbrev pub making : Text → Uid → ℕ → Found → List Change
making name uid limit Blank = Made name uid limit ∷ []
making name uid limit (Damaged disk place) = []
making name uid limit (Stands x) = []

-- a disk failed while a store was made: there is what was there, or the empty store
pub record BreaksOff (name : Text) (uid : Uid) (limit : ℕ) (before after : Store) : Type 0 where
  pub found : Found
  pub told : IsTold before.found found
  pub stood : ℕ
  pub reached : ℕ
  pub passes : Passes found (making name uid limit found) stood reached before after
  pub rose : Rose before.faults after.faults

-- there is a store, and it was only read
pub record Exists (before after : Store) : Type 0 where
  pub found : Found
  pub told : IsTold before.found found
  pub keeps : Keeps found before after
  pub there : is_blank found ≡ false
  pub untouched : IsUntouched before after

-- there was none, and now the empty store stands, and a crash leaves just that
pub record MadeAnew (name : Text) (uid : Uid) (limit : ℕ) (before after : Store) : Type 0 where
  pub told : IsTold before.found Blank
  pub passes : Passes Blank (Made name uid limit ∷ []) 1 1 before after
  pub settled : IsSettled (LeftStands (record { state = state_of name uid []; limit = limit })) after

abbrev pub Makes : Text → Uid → ℕ → Store → Store → Result (Unit {0}) MakeFault → Type 0
Makes name uid limit before after (Ok done) = MadeAnew name uid limit before after
Makes name uid limit before after (Err make_fault.Exists) = Exists before after
Makes name uid limit before after (Err make_fault.Disk) = BreaksOff name uid limit before after
Makes name uid limit before after (Err make_fault.Memory) = FindsSome before after × IsUntouched before after

-- ---- closing

-- What was known of the store is known of the closed one. Of one that was still open each step needs what it needed.
pub record Closes (known : Known) (crash : ℕ → Left Stored → Type 0) (is_open : Type 0) (after : Store) : Type 0
  where
    pub leaves : (k : ℕ) (o : Left Stored) → after.crash k o → crash k o
    pub moment : after.moment ≡ known.moment
    pub faults : after.faults ≡ known.faults
    pub need : is_open → IsNeeded (Stands (standing_in known)) [] after.found
