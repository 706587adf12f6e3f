use Rattle.vector_rev.proofs.Putting.{Walked}
use Rattle.vector_rev.proofs.places.put_each.Given as goal

abbrev pub invariant-loop-left : goal.invariant-loop-left
invariant-loop-left l = Walked l.others l.initial.entries.items l.entries.items l.end l.left

abbrev pub decreases-loop-left : goal.decreases-loop-left
decreases-loop-left l = l.left
