-- So far those of the first members are copied that the revision does not cover.
use Rattle.std.proofs.Common.{◌≡◌, take}
use Rattle.std.specs.Prelude.{filter, not}
use Rattle.vector_rev.specs.Clock.{covers}
use Rattle.conflicts.proofs.apply.uncovered_copies.Given as goal

abbrev pub invariant-loop-member : goal.invariant-loop-member
invariant-loop-member l = l.kept.items ≡ filter (λ m. not (covers l.rev m.rev)) (take l.member-index l.members)
