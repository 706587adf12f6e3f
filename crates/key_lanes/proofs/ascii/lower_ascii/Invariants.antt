use Rattle.std.proofs.Common.{◌-◌, ◌≤◌}
use Rattle.key_lanes.proofs.AsciiLanes.{IsLoweredTo}
use Rattle.key_lanes.proofs.ascii.lower_ascii.Given as goal

abbrev pub invariant-loop-at : goal.invariant-loop-at
invariant-loop-at l = record { within : l.at ≤ l.len; lowered : IsLoweredTo l.fn.bytes l.bytes l.at }

abbrev pub decreases-loop-at : goal.decreases-loop-at
decreases-loop-at l = l.len - l.at
