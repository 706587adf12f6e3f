-- The entries so far tie, so the rest decides.
use Rattle.std.proofs.Common.{◌≡◌, ◌-◌, ◌≤◌, length, drop}
use Rattle.std.specs.Cmp.Lexicographic.{slice_cmp}
use Rattle.conflicts.specs.Names.{entry_cmp}
use Rattle.conflicts.proofs.names.entries_cmp.Given as goal

abbrev pub invariant-loop-place : goal.invariant-loop-place
invariant-loop-place l = record {
  left_within : l.place ≤ length l.left;
  right_within : l.place ≤ length l.right;
  rest : slice_cmp entry_cmp l.left l.right ≡ slice_cmp entry_cmp (drop l.place l.left) (drop l.place l.right);
}

abbrev pub decreases-loop-place : goal.decreases-loop-place
decreases-loop-place l = length l.left - l.place
