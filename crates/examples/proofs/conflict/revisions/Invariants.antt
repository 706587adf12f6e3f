-- The first members' revisions are in the list.
use Rattle.std.proofs.Common.{◌≡◌, take}
use Rattle.conflicts.specs.Kept.{current_first}
use Rattle.conflicts.specs.Making.{revs}
use Rattle.examples.proofs.conflict.revisions.Given as goal

abbrev pub invariant-loop-place : goal.invariant-loop-place
invariant-loop-place l = l.all ≡ revs (take l.place (current_first l.set))
