-- The upper list is turned round: what came up stands last.
use Rattle.std.proofs.Common.{◌≡◌, ◌+◌, ◌≤◌, ◌-◌, ◌++◌, reverse}
use Rattle.std.specs.Vec.{vec_len, vec_capacity}
use Rattle.chunk_list.proofs.chunks.move_up.Given as goal

abbrev pub invariant-loop-lower : goal.invariant-loop-lower
invariant-loop-lower g l = record {
  same : l.lower.items ++ reverse l.upper.items ≡ l.fn.lower.items ++ l.fn.upper.items;
  both : vec_len l.lower + vec_len l.upper ≡ vec_len l.fn.lower + vec_len l.fn.upper;
  lower_capacity : vec_capacity l.lower ≡ vec_capacity l.fn.lower;
  upper_capacity : vec_capacity l.upper ≡ vec_capacity l.fn.upper;
  left : l.count ≤ vec_len l.lower;
}

abbrev pub decreases-loop-lower : goal.decreases-loop-lower
decreases-loop-lower g l = vec_len l.lower - l.count
