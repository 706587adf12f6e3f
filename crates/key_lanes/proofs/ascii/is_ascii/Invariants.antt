use Rattle.std.proofs.Common.{◌-◌, ◌≤◌}
use Rattle.key_lanes.specs.inner.Blocks.{AsciiBetween}
use Rattle.key_lanes.proofs.ascii.is_ascii.Given as goal

-- what was passed is ASCII
abbrev pub invariant-loop-at : goal.invariant-loop-at
invariant-loop-at l = record { within : l.at ≤ l.len; passed : AsciiBetween l.bytes 0 l.at }

abbrev pub decreases-loop-at : goal.decreases-loop-at
decreases-loop-at l = l.len - l.at
