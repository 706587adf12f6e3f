-- How a store changes, and what a crash on the way leaves.
use Rattle.std.specs.Prelude.{◌≡◌, ◌⊎◌, ℕ, ◌<◌, ◌≤◌, List, [], ◌∷◌, length, take, Option, Some, None}
use Rattle.conflicts.specs.State.{History, Step, Text, state_of}
use Rattle.vector_rev.specs.Counts.{Uid}
use Rattle.replica_core.specs.Replica.{Found as Left, Blank as LeftBlank, Damaged as LeftDamaged, Stands as LeftStands}
use Rattle.replica_core.specs.Replica.{Stored, stored_after}
use Rattle.store_commands.specs.Found.{Found, Blank, Damaged, Stands, Store, in_short}

-- one change: a store is made, with its name, its uid and its limit; or a step is made in it
pub data Change : Type 0 where
  Made : Text → Uid → ℕ → Change
  Stepped : Step → Change

-- what a store stands for after a change
abbrev pub after_change : Left Stored → Change → Left Stored
after_change found (Made name uid limit) = LeftStands (record { state = state_of name uid []; limit = limit })
after_change (LeftStands s) (Stepped x) = LeftStands (stored_after s (Some x))
after_change LeftBlank (Stepped x) = LeftBlank
after_change LeftDamaged (Stepped x) = LeftDamaged

abbrev pub after_all : Left Stored → List Change → Left Stored
after_all found [] = found
after_all found (change ∷ changes) = after_all (after_change found change) changes

-- what stands after some of the first n changes, none skipped
abbrev pub IsAfterSome : Left Stored → List Change → ℕ → Left Stored → Type 0
IsAfterSome found changes n o = (k : ℕ) × (k ≤ n) × (o ≡ after_all found (take k changes))

-- a crash now leaves just this
abbrev pub IsSettled : Left Stored → Store → Type 0
IsSettled found store = (o : Left Stored) → store.crash store.moment o → o ≡ found

-- what is told is in short this
abbrev pub IsNow : Left Stored → Option Found → Type 0
IsNow now None = Unit {0}
IsNow now (Some told) = in_short told ≡ now

-- Of the changes the first `stood` stand now. A crash at any moment since leaves what one could have left at the start,
-- or what stands after some of the first `reached` changes.
pub record Passes (found : Found) (changes : List Change) (stood reached : ℕ) (before after : Store) : Type 0 where
  pub stood_reached : stood ≤ reached
  pub within : reached ≤ length changes
  pub later : before.moment ≤ after.moment
  pub earlier : (k : ℕ) (o : Left Stored) → k < before.moment → after.crash k o → before.crash k o
  pub since : (k : ℕ) (o : Left Stored) → before.moment ≤ k → k ≤ after.moment → after.crash k o
      → before.crash before.moment o ⊎ IsAfterSome (in_short found) changes reached o
  pub now : IsNow (after_all (in_short found) (take stood changes)) after.found
  pub faults : before.faults ≤ after.faults

-- ---- what a step needs

-- the steps among the changes
abbrev pub steps_in : List Change → History
steps_in [] = []
steps_in (Made name uid limit ∷ changes) = steps_in changes
steps_in (Stepped x ∷ changes) = x ∷ steps_in changes

-- After steps each step needs what it needed behind these. Of a store that was made nothing was needed before.
abbrev pub NeedsAfter : (History → Step → ℕ) → List Change → (History → Step → ℕ) → Type 0
NeedsAfter old [] new = (xs : History) (y : Step) → new xs y ≡ old xs y
NeedsAfter old (Made name uid limit ∷ changes) new = Unit {0}
NeedsAfter old (Stepped x ∷ changes) new = NeedsAfter (λ xs. old (x ∷ xs)) changes new

-- the same of what was found and of what stands after the changes
abbrev pub NeedsNow : Found → List Change → Found → Type 0
NeedsNow Blank changes told = Unit {0}
NeedsNow (Damaged disk place) changes told = Unit {0}
NeedsNow (Stands x) changes Blank = Unit {0}
NeedsNow (Stands x) changes (Damaged disk place) = Unit {0}
NeedsNow (Stands x) changes (Stands y) = NeedsAfter x.need changes y.need

-- and of what is told
abbrev pub IsNeeded : Found → List Change → Option Found → Type 0
IsNeeded found changes None = Unit {0}
IsNeeded found changes (Some told) = NeedsNow found changes told
