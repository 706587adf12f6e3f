use Rattle.std.proofs.Common.{◌≡◌, ◌≤◌, ◌-◌, length, drop}
use Rattle.sync_stream.specs.Says.{trim_start}
use Rattle.sync_stream.proofs.says.trim_start.Given as goal

abbrev pub invariant-loop-start : goal.invariant-loop-start
invariant-loop-start l =
    record { fits : l.start ≤ length l.bytes; same : trim_start (drop l.start l.bytes) ≡ trim_start l.bytes }

abbrev pub decreases-loop-start : goal.decreases-loop-start
decreases-loop-start l = length l.bytes - l.start
