-- So far the first clocks are copied.
use Rattle.std.proofs.Common.{◌≡◌, take}
use Rattle.conflicts.proofs.accept.clocks_copied.Given as goal

abbrev pub invariant-loop-clock : goal.invariant-loop-clock
invariant-loop-clock l = l.copies.items ≡ take l.clock-index l.clocks
