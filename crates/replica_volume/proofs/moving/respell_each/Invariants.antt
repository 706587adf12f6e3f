use Rattle.std.proofs.Common.{ℕ, List, ◌-◌}
use Rattle.journal.specs.Passing.{HasPassed}
use Rattle.replica_volume.proofs.Moves.{IsRespelled}
use Rattle.replica_volume.proofs.moving.respell_each.Given as goal

abbrev pub invariant-loop-entry : goal.invariant-loop-entry
invariant-loop-entry l = (bodies : List (List ℕ)) × HasPassed l.image bodies l.place
    × IsRespelled l.image bodies l.spelled

abbrev pub decreases-loop-entry : goal.decreases-loop-entry
decreases-loop-entry l = l.image.journal.length - l.place
