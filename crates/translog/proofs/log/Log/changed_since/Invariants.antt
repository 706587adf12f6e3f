use Rattle.std.proofs.Common.{◌-◌}
use Rattle.translog.proofs.LastEntries.{Walked}
use Rattle.translog.proofs.log.Log.changed_since.Given as goal

abbrev pub invariant-loop-place : goal.invariant-loop-place
invariant-loop-place l = Walked l.entries l.generation l.place l.later l.changes.items

abbrev pub decreases-loop-place : goal.decreases-loop-place
decreases-loop-place l = l.place - l.generation
