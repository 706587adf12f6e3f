use Rattle.std.proofs.Common.{◌-◌, ◌≤◌}
use Rattle.key_lanes.specs.inner.Blocks.{EqualBetween}
use Rattle.key_lanes.proofs.order.common_prefix.Given as goal

-- what was passed is equal
abbrev pub invariant-loop-at : goal.invariant-loop-at
invariant-loop-at l = record { within : l.at ≤ l.len; same : EqualBetween l.a l.b 0 l.at }

abbrev pub decreases-loop-at : goal.decreases-loop-at
decreases-loop-at l = l.len - l.at
