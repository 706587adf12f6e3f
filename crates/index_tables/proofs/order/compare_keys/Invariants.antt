-- What was passed is equal, so that the rests decide.
use Rattle.std.proofs.Common.{◌≡◌, ◌≤◌, ◌-◌, length, drop}
use Rattle.index_tables.specs.Order.{key_cmp}
use Rattle.index_tables.proofs.order.compare_keys.Given as goal

abbrev pub invariant-loop-at : goal.invariant-loop-at
invariant-loop-at l = record {
  in_a : l.at ≤ length l.a;
  in_b : l.at ≤ length l.b;
  rests : key_cmp l.a l.b ≡ key_cmp (drop l.at l.a) (drop l.at l.b);
}

abbrev pub decreases-loop-at : goal.decreases-loop-at
decreases-loop-at l = length l.a - l.at
