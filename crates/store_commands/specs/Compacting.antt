-- Compacting a store that is open: its image is written anew, with what a compaction leaves of its steps.
use Rattle.std.specs.Prelude.{◌≡◌, ℕ, ◌≤◌, [], Option, Some, None, Result, Ok, Err}
use Rattle.u1_base.specs.Causes.{Rose}
use Rattle.compaction.specs.Compaction.{compaction}
use Rattle.conflicts.specs.State.{History}
use Rattle.disks.specs.declared.fault.CompactFault.{CompactFault}
use Rattle.disks.specs.declared.fault.CompactFault.TheVariants as fault
use Rattle.disks.specs.declared.fault.Sizes.{Sizes}
use Rattle.replica_core.specs.Replica.{AddsOnly, Found as Left, Known, NeedsBehind, Stands as LeftStands, Stored}
use Rattle.replica_core.specs.Replica.{stored_in}
use Rattle.command_lines.specs.declared.outcome.Outcome.{Outcome}
use Rattle.command_lines.specs.declared.outcome.Outcome.TheVariants as outcome

-- the image of a store, as opening it leaves it: its length in bytes, up to and with its closed gate, and the steps
-- that it reads as
pub record Image : Type 0 where
  pub length : ℕ
  pub steps : History

-- ---- what a compaction makes of an image

-- these are the lengths of an image and of the one that stands in its place, which reads as the compaction of its steps
pub record IsCompacted (sizes : Sizes) (before after : Image) : Type 0 where
  pub before_long : sizes.before ≡ before.length
  pub after_long : sizes.after ≡ after.length
  pub steps : after.steps ≡ compaction before.steps

-- the same of two images, where contracts can see them
abbrev pub AreCompacted : Sizes → Option Image → Option Image → Type 0
AreCompacted sizes None None = Unit {0}
AreCompacted sizes None (Some after) = ⊥
AreCompacted sizes (Some before) None = ⊥
AreCompacted sizes (Some before) (Some after) = IsCompacted sizes before after

-- What compacting comes to: the two lengths; or damage, which comes only where contracts cannot see the image; or a
-- disk failed, or memory ran out.
abbrev pub ComesTo : Result Sizes Outcome → Option Image → Option Image → Type 0
ComesTo (Ok sizes) before after = AreCompacted sizes before after
ComesTo (Err (outcome.Damaged disk place)) before after = before ≡ None
ComesTo (Err outcome.DiskFault) before after = Unit {0}
ComesTo (Err outcome.Memory) before after = Unit {0}
ComesTo (Err _) before after = ⊥

-- ---- the call

-- of an open store: what is known of it as a replica, when it is open, what a crash leaves, and its image
module _ {O : Type 0} (known : O → Known) (is_open : O → Type 0) (crash : O → ℕ → Left Stored → Type 0)
    (image : O → Option Image) where
  -- the image is the one that was there, and each step needs what it needed
  pub record Stays (old new : O) : Type 0 where
    pub ready : is_open new
    pub same : image new ≡ image old
    pub need : NeedsBehind (known old) (known new) []

  -- Only a failed disk closes the store. Damage is found only where contracts cannot see the image; after it, and where
  -- memory ran out, the image stays.
  abbrev pub Ends : O → O → Result Sizes CompactFault → Type 0
  Ends old new (Ok sizes) = is_open new × AreCompacted sizes (image old) (image new)
  Ends old new (Err (fault.Damaged disk place)) = Stays old new × (image old ≡ None)
  Ends old new (Err fault.Disk) = Rose (known old).faults (known new).faults
  Ends old new (Err fault.Memory) = Stays old new

  -- at every moment and at the end the state and the limit are those that stood
  pub record Compacts (old new : O) (result : Result Sizes CompactFault) : Type 0 where
    pub stored : stored_in (known new) ≡ stored_in (known old)
    pub later : (known old).faults ≤ (known new).faults
    pub any_moment : AddsOnly known crash old new (λ found. found ≡ LeftStands (stored_in (known old)))
    pub ends : Ends old new result
