-- The names so far are the first clocks.
use Rattle.std.proofs.Common.{◌≡◌, map, take}
use Rattle.conflicts.proofs.names.references.Given as goal

abbrev pub invariant-loop-clock : goal.invariant-loop-clock
invariant-loop-clock l = map (λ name. name.now) l.names.items ≡ take l.clock-index l.all
