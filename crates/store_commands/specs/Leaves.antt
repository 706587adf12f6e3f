-- How a run is decided: the cause of each outcome, and what it leaves. No outcome leaves anything free.
use Rattle.std.specs.Prelude.{◌≡◌, ◌≢◌, ◌⊎◌, ℕ, ◌<◌, Bool, true, false, List, ◌∷◌, length, drop, take}
use Rattle.u1_base.specs.Causes.{Rose}
use Rattle.conflicts.specs.State.{History, Step}
use Rattle.link.specs.Streams.{IsFront}
use Rattle.command_lines.specs.Endings.{Ending, Finished, Answered, TooLong, DiskFailed, InputFailed, OutputFailed}
use Rattle.command_lines.specs.Endings.{LinkFailed, DoorFailed, OutOfMemory, ending_of}
use Rattle.command_lines.specs.declared.outcome.Outcome.{Outcome}
use Rattle.command_lines.specs.declared.outcome.Outcome.TheVariants.{Done, DiskFault}
use Rattle.store_commands.specs.Changes.{Change, IsNeeded, IsSettled, Passes, Stepped, after_all, steps_in}
use Rattle.store_commands.specs.Deeds.{Answer}
use Rattle.store_commands.specs.Found.{Found, Blank, Damaged as DamagedStore, IsUntouched, Stands, Store, in_short}

-- with a step behind these the store would be too long
abbrev pub IsTooLong : Found → History → Step → ℕ → ℕ → Type 0
IsTooLong Blank made x need limit = ⊥
IsTooLong (DamagedStore disk place) made x need limit = ⊥
IsTooLong (Stands s) made x need limit = (need ≡ s.need made x) × (limit ≡ s.limit) × (s.limit < s.need made x)

-- the change behind the first n is a step, and with it the store would be too long
abbrev pub Overfills : Found → List Change → ℕ → ℕ → ℕ → Type 0
Overfills found changes n need limit =
    (x : Step) × (rest : List Change) × (drop n changes ≡ Stepped x ∷ rest)
    × IsTooLong found (steps_in (take n changes)) x need limit

-- each step among the first of the changes keeps the store within its limit
abbrev pub Fit : Found → List Change → ℕ → Type 0
Fit found changes first = (n need limit : ℕ) → n < first → ¬ (Overfills found changes n need limit)

module _ (found : Found) (opened : Bool) (a : Answer) (unread : Type 0) (stood reached : ℕ) (before after : Store) where
  -- the store was opened or made, or a crash would have left just what stood at the start
  abbrev pub CanRest : Type 0
  CanRest = (opened ≡ true) ⊎ IsSettled (in_short found) before

  -- then a crash leaves just what stands
  abbrev pub Settled : Type 0
  Settled = CanRest → IsSettled (after_all (in_short found) (take stood a.changes)) after

  -- a store that was neither opened nor made keeps its bytes
  abbrev pub Untouched : Type 0
  Untouched = opened ≡ false → IsUntouched before after

  -- it ends as it was answered, and all changes stand
  abbrev pub AsAnswered : Outcome → Type 0
  AsAnswered outcome = (a.outcome ≡ outcome) × (stood ≡ length a.changes)

  -- THE TABLE: the cause of each outcome, by its kind. Running out of memory has none. No command of this crate prints
  -- before it is decided, nor meets a link or a door.
  abbrev pub Cause : Outcome → Ending → Type 0
  Cause outcome Finished = AsAnswered outcome
  Cause outcome Answered = AsAnswered outcome
  Cause outcome (TooLong need limit) = Overfills found a.changes stood need limit
  Cause outcome DiskFailed = Rose before.faults after.faults
  Cause outcome InputFailed = unread × (stood ≡ 0)
  Cause outcome OutputFailed = ⊥
  Cause outcome LinkFailed = ⊥
  Cause outcome DoorFailed = ⊥
  Cause outcome OutOfMemory = Unit {0}

  -- The cause, and what each outcome leaves. Where a disk failed some of the changes stand, none skipped, and a crash
  -- may leave more of them.
  pub record Leaves (outcome : Outcome) : Type 0 where
    pub cause : Cause outcome (ending_of outcome)
    -- each step that may have been written did fit
    pub fits : Fit found a.changes reached
    -- no step was written that does not stand
    pub front : outcome ≢ DiskFault → reached ≡ stood
    pub rest : outcome ≢ DiskFault → Settled
    -- nothing was written but the changes that stand, unless the answer is an image that is written anew: each step
    -- needs what it needed behind these
    pub need : outcome ≢ DiskFault → a.anew ≡ false → IsNeeded found (take stood a.changes) after.found
    pub bytes : outcome ≢ DiskFault → Untouched

-- the store's part of a decision
pub record Does (found : Found) (opened : Bool) (a : Answer) (unread : Type 0) (before after : Store)
    (decided : Outcome) : Type 0 where
  pub stood : ℕ
  pub reached : ℕ
  pub passes : Passes found a.changes stood reached before after
  pub leaves : Leaves found opened a unread stood reached before after decided

-- of the bytes that were due all are gone, or a front where the run broke off
abbrev pub IsReadBy : Ending → List ℕ → List ℕ → Type 0
IsReadBy DiskFailed due read = IsFront read due
IsReadBy InputFailed due read = IsFront read due
IsReadBy OutOfMemory due read = IsFront read due
IsReadBy _ due read = read ≡ due

abbrev pub IsRead : List ℕ → List ℕ → Outcome → Type 0
IsRead due read outcome = IsReadBy (ending_of outcome) due read
