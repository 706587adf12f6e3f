-- The clocks from that place on are joined.
use Rattle.std.proofs.Common.{◌≡◌, ◌<◌, length, drop}
use Rattle.conflicts.specs.Making.{joined}
use Rattle.conflicts.proofs.made.joined_of.Given as goal

abbrev pub invariant-loop-place : goal.invariant-loop-place
invariant-loop-place l =
    record { there : l.place < length l.clocks; joined : l.all.entries ≡ joined (drop l.place l.clocks) }

abbrev pub decreases-loop-place : goal.decreases-loop-place
decreases-loop-place l = l.place
