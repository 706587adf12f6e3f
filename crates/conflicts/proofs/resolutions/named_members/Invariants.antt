-- So far the named ones of the current member and the first others are added.
use Rattle.std.proofs.Common.{◌≡◌}
use Rattle.conflicts.specs.Making.{named_in, revs}
use Rattle.conflicts.specs.Walk.{seen}
use Rattle.conflicts.proofs.resolutions.named_members.Given as goal

abbrev pub invariant-loop-place : goal.invariant-loop-place
invariant-loop-place l = l.parents.items ≡ revs (named_in l.names.all.now (seen l.set l.place))
