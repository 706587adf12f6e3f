use Rattle.vector_rev.specs.inner.Standing.{IsAbove}
use Rattle.vector_rev.proofs.places.place_of.Given as goal

abbrev pub invariant-loop-place : goal.invariant-loop-place
invariant-loop-place l = IsAbove l.uid l.entries l.place

abbrev pub decreases-loop-place : goal.decreases-loop-place
decreases-loop-place l = l.place
