use Rattle.std.proofs.Common.{◌-◌, ◌≤◌, length}
use Rattle.key_lanes.specs.Breaks.{NoBreak}
use Rattle.key_lanes.proofs.lines.break_by_bytes.Given as goal

-- no line ends in what was passed
abbrev pub invariant-loop-at : goal.invariant-loop-at
invariant-loop-at l = record {
  from : l.from ≤ l.at;
  within : l.at ≤ length l.bytes;
  none : NoBreak l.bytes l.from l.at;
}

abbrev pub decreases-loop-at : goal.decreases-loop-at
decreases-loop-at l = length l.bytes - l.at
