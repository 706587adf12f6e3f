use Rattle.std.proofs.Common.{◌-◌}
use Rattle.journal.specs.Passing.{HasPassed}
use Rattle.journal.proofs.passing.Stored.copy_bodies.Given as goal

abbrev pub invariant-loop-entry : goal.invariant-loop-entry
invariant-loop-entry l = HasPassed l.self l.bodies l.place

abbrev pub decreases-loop-entry : goal.decreases-loop-entry
decreases-loop-entry l = l.self.journal.length - l.place
