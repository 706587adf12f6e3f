-- The greatest counter of the first clocks.
use Rattle.std.proofs.Common.{◌≡◌, take}
use Rattle.conflicts.specs.Making.{greatest}
use Rattle.conflicts.proofs.made.greatest_in.Given as goal

abbrev pub invariant-loop-clock : goal.invariant-loop-clock
invariant-loop-clock l = l.most ≡ greatest l.own (take l.clock-index l.clocks)
