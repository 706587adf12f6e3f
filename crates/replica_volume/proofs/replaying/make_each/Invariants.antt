use Rattle.std.proofs.Common.{ℕ, List, ◌-◌}
use Rattle.journal.specs.Passing.{HasPassed}
use Rattle.replica_volume.specs.inner.Replaying.{AreMade}
use Rattle.replica_volume.proofs.replaying.make_each.Given as goal

abbrev pub invariant-loop-entry : goal.invariant-loop-entry
invariant-loop-entry l = (bodies : List (List ℕ)) × HasPassed l.image bodies l.place
    × AreMade l.image bodies l.made

abbrev pub decreases-loop-entry : goal.decreases-loop-entry
decreases-loop-entry l = l.image.journal.length - l.place
