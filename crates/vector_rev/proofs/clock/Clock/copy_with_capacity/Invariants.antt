use Rattle.std.proofs.Common.{◌≡◌, take}
use Rattle.vector_rev.proofs.clock.Clock.copy_with_capacity.Given as goal

abbrev pub invariant-loop-entry : goal.invariant-loop-entry
invariant-loop-entry l = l.entries.items ≡ take l.entry-index l.self.entries
