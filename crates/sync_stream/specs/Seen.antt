-- Words of private clauses: up to where bytes were searched.
use Rattle.std.specs.Prelude.{ℕ, ◌<◌, ◌≤◌, List, length}
use Rattle.key_lanes.specs.Breaks.{NoBreak}

-- no CR LF stands from `start` up to `seen`. The last byte is not counted as seen: it may be the CR of a CR LF of which
-- the LF is still to come
pub record IsSeen (bytes : List ℕ) (start : ℕ) (seen : ℕ) : Type 0 where
  pub from : start ≤ seen
  pub to : start < seen → seen < length bytes
  pub inside : start ≤ length bytes
  pub none : NoBreak bytes start seen
