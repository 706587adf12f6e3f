use Rattle.std.proofs.Common.{◌≡◌, ◌≤◌, true, length, drop}
use Rattle.std.specs.List.{list_all}
use Rattle.disk_model.specs.inner.Log.{is_open}
use Rattle.disk_model.proofs.calls.settled_calls.Given as goal

abbrev pub invariant-loop-begin : goal.invariant-loop-begin
invariant-loop-begin l = record {
  in_range : l.begin ≤ length l.calls;
  all_open : list_all is_open (drop l.begin l.calls) ≡ true;
}

abbrev pub decreases-loop-begin : goal.decreases-loop-begin
decreases-loop-begin l = l.begin
