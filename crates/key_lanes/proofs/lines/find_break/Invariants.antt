use Rattle.std.proofs.Common.{◌-◌, ◌≤◌}
use Rattle.key_lanes.specs.Breaks.{NoBreak}
use Rattle.key_lanes.proofs.lines.find_break.Given as goal

-- no line ends in what was passed
abbrev pub invariant-loop-at : goal.invariant-loop-at
invariant-loop-at l = record { from : l.from ≤ l.at; within : l.at ≤ l.len; none : NoBreak l.bytes l.from l.at }

abbrev pub decreases-loop-at : goal.decreases-loop-at
decreases-loop-at l = l.len - l.at
