-- So far the first members are copied.
use Rattle.std.proofs.Common.{◌≡◌, ◌++◌, take}
use Rattle.conflicts.proofs.set.push_copies.Given as goal

abbrev pub invariant-loop-member : goal.invariant-loop-member
invariant-loop-member l = l.into.items ≡ l.fn.into.items ++ take l.member-index l.members
