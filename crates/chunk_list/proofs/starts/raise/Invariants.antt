use Rattle.std.proofs.Common.{◌≡◌, ◌+◌, ◌<◌, ◌≤◌, ℕ, length, get_or}
use Rattle.std.specs.Vec.{vec_capacity}
use Rattle.chunk_list.proofs.starts.raise.Given as goal

abbrev pub invariant-loop-k : goal.invariant-loop-k
invariant-loop-k l = record {
  len : length l.numbers.items ≡ length l.fn.numbers.items;
  capacity : vec_capacity l.numbers ≡ vec_capacity l.fn.numbers;
  low : (k : ℕ) → k < l.from → get_or l.numbers.items k 0 ≡ get_or l.fn.numbers.items k 0;
  done : (k : ℕ) → l.from ≤ k → k < l.k
      → get_or l.numbers.items k 0 + l.before ≡ get_or l.fn.numbers.items k 0 + l.after;
  left : (k : ℕ) → l.k ≤ k → get_or l.numbers.items k 0 ≡ get_or l.fn.numbers.items k 0;
}
