use Rattle.std.proofs.Common.{◌≡◌, ◌≤◌, length, take}
use Rattle.sync_stream.specs.Says.{trim_end}
use Rattle.sync_stream.proofs.says.trim_end.Given as goal

abbrev pub invariant-loop-end : goal.invariant-loop-end
invariant-loop-end l = record { fits : l.end ≤ length l.bytes; same : trim_end (take l.end l.bytes) ≡ trim_end l.bytes }

abbrev pub decreases-loop-end : goal.decreases-loop-end
decreases-loop-end l = l.end
