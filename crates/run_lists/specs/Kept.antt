-- THE MAIN THEOREM for one store: whatever is run, and whenever it is stopped, the store stands for a history that goes
-- on, and no revision is lost that was ever accepted.
use Rattle.std.specs.Prelude.{◌≡◌, ◌⊎◌, ℕ, ◌≤◌, true, IsTrue, List, [], ◌∷◌, ◌++◌, map}
use Rattle.conflicts.specs.State.{History, State, Text, state_of}
use Rattle.disks.specs.Joint.{seen_of}
use Rattle.replica_cli.specs.Store.{found_in, store_seen}
use Rattle.replica_core.specs.Replica.{Found as Left, Blank, Damaged, Stands, Stored}
use Rattle.replica_core.specs.Runs.{Continues}
use Rattle.replica_volume.specs.Volume.{moments}
use Rattle.store_commands.specs.Changes.{Change, Made, Stepped}
use Rattle.store_commands.specs.Found.{in_short}
use Rattle.vector_rev.specs.Counts.{Uid}
use Rattle.run_lists.specs.Lists.{Between}
use Rattle.run_lists.specs.Shares.{MayLeave, Share, is_settled_by, lasting, made}

-- what opening the store finds
abbrev pub found_at : Between → Left Stored
found_at m = in_short (found_in (seen_of m.disks.files))

-- what a crash at the k-th moment leaves
abbrev pub CrashAt : Between → ℕ → Left Stored → Type 0
CrashAt m k o = (store_seen true m.disks).crash k o

abbrev pub moment_of : Between → ℕ
moment_of m = moments true m.disks

-- the changes are steps; the history goes on by them to the state that stands, under the same limit, and a member of
-- its document covers each revision that it accepted
pub record Grows (name : Text) (uid : Uid) (limit : ℕ) (h : History) (changes : List Change) (now : Left Stored)
    : Type 0 where
  pub steps : History
  pub are : changes ≡ map Stepped steps
  pub state : State
  pub is : now ≡ Stands (record { state = state; limit = limit })
  pub continues : Continues name uid h steps state

-- a store was made, with its limit, and its history begins
pub record Begins (changes : List Change) (now : Left Stored) : Type 0 where
  pub name : Text
  pub uid : Uid
  pub limit : ℕ
  pub later : List Change
  pub are : changes ≡ Made name uid limit ∷ later
  pub grows : Grows name uid limit [] later now

-- by these changes what was found comes to what stands now
pub record GoesOn (found : Left Stored) (changes : List Change) (now : Left Stored) : Type 0 where
  -- a store that stands for a history stands for a longer one, and its limit stays
  pub stands : (name : Text) (uid : Uid) (limit : ℕ) (h : History)
      → found ≡ Stands (record { state = state_of name uid h; limit = limit }) → Grows name uid limit h changes now
  -- where there is none, none is there, or one that was made
  pub blank : found ≡ Blank → ((changes ≡ []) × (now ≡ Blank)) ⊎ Begins changes now
  -- nothing mends a damaged one
  pub damaged : found ≡ Damaged → (changes ≡ []) × (now ≡ Damaged)

pub record KeepsAll (before after : Between) (runs : List Share) : Type 0 where
  -- all changes stand that the runs made
  pub now : GoesOn (found_at before) (made runs) (found_at after)
  -- a crash leaves what it might have left before, or what stands after some of them
  pub any_moment : (k : ℕ) (o : Left Stored) → moment_of before ≤ k → k ≤ moment_of after → CrashAt after k o
      → MayLeave (CrashAt before (moment_of before)) k (found_at before) runs o
  -- and by these the history goes on too
  pub kept : (k : ℕ) (o : Left Stored) → moment_of before ≤ k → k ≤ moment_of after → CrashAt after k o
      → CrashAt before (moment_of before) o ⊎ ((changes : List Change) × GoesOn (found_at before) changes o)
  -- what was made by the end of a run that settled the store stands, whatever a later crash leaves, and the history
  -- goes on from there
  pub lasts : (k : ℕ) (o : Left Stored) → moment_of before ≤ k → k ≤ moment_of after → CrashAt after k o
      → IsTrue (is_settled_by k runs) → (later : List Change) × GoesOn (found_at before) (lasting k runs ++ later) o
