-- None of the chunks looked at has places enough.
use Rattle.std.proofs.Common.{◌+◌, ◌-◌, ◌<◌, ◌≤◌, ℕ, length, get_or}
use Rattle.std.specs.Vec.{vec_len}
use Rattle.chunk_list.specs.Chunks.{full}
use Rattle.chunk_list.proofs.room.nearest.Given as goal

abbrev pub invariant-loop-step : goal.invariant-loop-step
invariant-loop-step g l = record {
  some : 0 < l.step;
  within : l.step ≤ l.furthest + 1;
  above : (k : ℕ) (d : _) → l.at < k → k < l.at + l.step → k < length l.chunks.items
      → full < vec_len (get_or l.chunks.items k d) + l.least;
  below : (k : ℕ) (d : _) → k < l.at → l.at < k + l.step → full < vec_len (get_or l.chunks.items k d) + l.least;
}

abbrev pub decreases-loop-step : goal.decreases-loop-step
decreases-loop-step g l = l.furthest + 1 - l.step
