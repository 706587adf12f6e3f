-- So many of the members up to the place are not covered.
use Rattle.std.proofs.Common.{◌≡◌, ◌≤◌, length, take}
use Rattle.std.specs.Prelude.{filter, not}
use Rattle.vector_rev.specs.Clock.{covers}
use Rattle.conflicts.proofs.apply.uncovered_within.Given as goal

abbrev pub invariant-loop-place : goal.invariant-loop-place
invariant-loop-place l = record {
  counted : l.count ≡ length (filter (λ m. not (covers l.rev m.rev)) (take l.place l.members));
  few : l.count ≤ l.place;
}
