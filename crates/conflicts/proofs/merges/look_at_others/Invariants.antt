-- So far the current member and the first others are merged, or not, as their contents are.
use Rattle.conflicts.specs.Walk.{seen}
use Rattle.conflicts.specs.inner.Walk.{IsMerging}
use Rattle.conflicts.proofs.merges.look_at_others.Given as goal

abbrev pub invariant-loop-place : goal.invariant-loop-place
invariant-loop-place l = IsMerging l.set l.incoming l.own (seen l.set l.place) l.merging
