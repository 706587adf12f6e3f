-- The greatest counter of the first members.
use Rattle.std.proofs.Common.{◌≡◌, take}
use Rattle.conflicts.specs.Making.{greatest, revs}
use Rattle.conflicts.proofs.resolutions.greatest_among.Given as goal

abbrev pub invariant-loop-member : goal.invariant-loop-member
invariant-loop-member l = l.most ≡ greatest l.own (revs (take l.member-index l.members))
