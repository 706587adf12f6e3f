-- The upper list is turned round: what goes down next stands last.
use Rattle.std.proofs.Common.{◌≡◌, ◌+◌, ◌≤◌, ◌-◌, ◌++◌, reverse}
use Rattle.std.specs.Vec.{vec_len, vec_capacity}
use Rattle.chunk_list.proofs.chunks.move_down.Given as goal

abbrev pub invariant-loop-upper : goal.invariant-loop-upper
invariant-loop-upper g l = record {
  same : l.lower.items ++ reverse l.upper.items ≡ l.fn.lower.items ++ l.fn.upper.items;
  both : vec_len l.lower + vec_len l.upper ≡ vec_len l.fn.lower + vec_len l.fn.upper;
  lower_capacity : vec_capacity l.lower ≡ vec_capacity l.fn.lower;
  upper_capacity : vec_capacity l.upper ≡ vec_capacity l.fn.upper;
  short : vec_len l.lower ≤ l.count;
}

abbrev pub decreases-loop-upper : goal.decreases-loop-upper
decreases-loop-upper g l = l.count - vec_len l.lower
