use Rattle.std.proofs.Common.{◌≡◌, false, take}
use Rattle.conflicts.specs.Document.{has_rev}
use Rattle.conflicts.specs.Kept.{current_first}
use Rattle.compaction.proofs.standing.has_member.Given as goal

-- none of the first members has the revision
abbrev pub invariant-loop-place : goal.invariant-loop-place
invariant-loop-place l = has_rev (take l.place (current_first l.set)) l.rev ≡ false
