use Rattle.std.proofs.Common.{◌≡◌, ◌≤◌, length, drop}
use Rattle.disk_model.specs.Log.{before}
use Rattle.disk_model.proofs.calls.take_back.Given as goal

abbrev pub invariant-loop-end : goal.invariant-loop-end
invariant-loop-end l = record {
  in_range : l.end ≤ length l.calls;
  so_far : l.file.items ≡ before (drop l.end l.calls) l.initial.file.items;
}

abbrev pub decreases-loop-end : goal.decreases-loop-end
decreases-loop-end l = l.end
