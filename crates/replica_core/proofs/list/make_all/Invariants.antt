-- The calls so far have ended, and the others are left.
use Rattle.std.proofs.Common.{◌≡◌, ◌≤◌, drop, length}
use Rattle.std.specs.Prelude.{vec_capacity, vec_len}
use Rattle.replica_core.proofs.Runs.{SoFar}
use Rattle.replica_core.proofs.list.make_all.Given as goal

abbrev pub invariant-loop-call : goal.invariant-loop-call
invariant-loop-call g l = record {
  count : vec_len l.ends ≡ l.call-index;
  room : length l.calls ≤ vec_capacity l.ends;
  so_far : SoFar g.R.Replica.known g.R.Replica.is_open g.R.Replica.crash l.fn.replica l.replica l.calls
      (drop l.call-index l.calls) l.ends.items;
}
