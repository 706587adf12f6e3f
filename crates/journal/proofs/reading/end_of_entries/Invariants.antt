use Rattle.std.proofs.Common.{ℕ, List, length, ◌-◌}
use Rattle.journal.specs.inner.Fields.{Reached}
use Rattle.journal.proofs.reading.end_of_entries.Given as goal

abbrev pub invariant-loop-at : goal.invariant-loop-at
invariant-loop-at l = (bodies : List (List ℕ)) × Reached bodies l.at l.bytes

abbrev pub decreases-loop-at : goal.decreases-loop-at
decreases-loop-at l = length l.bytes - l.at
