use Rattle.std.proofs.Common.{ℕ, List, ◌-◌}
use Rattle.journal.specs.Passing.{HasPassed}
use Rattle.replica_state.specs.Held.{meaning}
use Rattle.replica_volume.specs.inner.Compacting.{AreKeptSoFar}
use Rattle.replica_volume.proofs.compacting.keep_each.Given as goal

abbrev pub invariant-loop-entry : goal.invariant-loop-entry
invariant-loop-entry l = (bodies : List (List ℕ)) × HasPassed l.image bodies l.place
    × AreKeptSoFar (meaning l.state) l.image bodies l.kept

abbrev pub decreases-loop-entry : goal.decreases-loop-entry
decreases-loop-entry l = l.image.journal.length - l.place
