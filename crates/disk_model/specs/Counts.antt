-- How many calls a disk was given.
use Rattle.std.specs.Prelude.{◌≡◌, ℕ, ◌+◌, ◌-◌, ◌/◌, ◌^◌, ◌≤◌, min, Result, OnOk}
use Rattle.disk_model.specs.Device.{Device}

-- the count after n calls more; at 2^64-1, the end of its type, it stands still
abbrev pub called : ℕ → ℕ → ℕ
called n before = before + min n (2 ^ 64 - 1 - before)

-- at Ok just n calls were made, and never more
pub record MakesCalls {T E : Type 0} (n : ℕ) (before now : Device) (result : Result T E) : Type 0 where
  pub at_ok : OnOk result (now.made ≡ called n before.made)
  pub no_more : now.made ≤ called n before.made

-- the pieces of 1 MiB in which so many bytes are read
abbrev pub pieces : ℕ → ℕ
pieces n = (n + (2 ^ 20 - 1)) / 2 ^ 20
