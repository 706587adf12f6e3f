-- What a disk in memory tells, and where it fails.
use Rattle.std.specs.Prelude.{◌≡◌, ◌⊎◌, ℕ, ◌+◌, List, Contains, length, take, drop, slice_index_or, Result, IsErr, OnOk}
use Rattle.std.specs.Prelude.{OnErr}
use Rattle.disk_model.specs.Device.{Device, alone}
use Rattle.disk_model.specs.Counts.{called}
use Rattle.disk_model.specs.Log.{before, now_of, past_of}
use Rattle.disk_model.specs.Losses.{begun, left_of}
use Rattle.disk_model.specs.declared.calls.Call.TheVariants.{Look}
use Rattle.disk_model.specs.declared.losses.Choice.{Choice}
use Rattle.disk_model.specs.declared.memory.MemDisk.{MemDisk}

-- what is known of it: each call that it noted is a moment, and nothing lies beside it
abbrev pub mem_known : MemDisk → Device
mem_known d =
    record {
      seen = d.bytes.items;
      now = now_of d.log.items d.bytes.items;
      beside = alone;
      past = past_of d.log.items d.bytes.items;
      made = d.made;
      faults = d.faults;
    }

-- how many calls it noted
abbrev pub mem_calls : MemDisk → ℕ
mem_calls d = length (mem_known d).past

-- the numbers of the calls that are to fail
abbrev pub mem_failing : MemDisk → List ℕ
mem_failing d = d.failing

-- the next call is to fail
abbrev pub IsToFail : MemDisk → Type 0
IsToFail d = Contains (mem_failing d) (mem_calls d)

-- a call fails where it was told to, and else only where it found no memory and was not noted; just then a fault is
-- counted
pub record FailsAsTold {T E : Type 0} (old new : MemDisk) (result : Result T E) : Type 0 where
  pub told : IsToFail old → IsErr result
  pub only : OnErr result (IsToFail old ⊎ (mem_calls new ≡ mem_calls old))
  pub noted : OnOk result (mem_calls new ≡ mem_calls old + 1)
  pub quiet : OnOk result ((mem_known new).faults ≡ (mem_known old).faults)
  pub counted : OnErr result ((mem_known new).faults ≡ called 1 (mem_known old).faults)
  pub same : mem_failing new ≡ mem_failing old

-- what a crash after the first n calls leaves by a choice
abbrev pub mem_left_after : MemDisk → ℕ → Choice → List ℕ
mem_left_after d n choice = left_of choice (take n d.log.items) (before (drop n d.log.items) d.bytes.items)

-- what a stop during the call of this number leaves by a choice
abbrev pub mem_left : MemDisk → ℕ → Choice → List ℕ
mem_left d call choice = mem_left_after d (call + begun (slice_index_or d.log.items call Look)) choice

-- what a stop after the last call leaves by a choice
abbrev pub mem_left_now : MemDisk → Choice → List ℕ
mem_left_now d choice = left_of choice d.log.items d.bytes.items
