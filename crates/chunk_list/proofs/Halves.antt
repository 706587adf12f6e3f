-- What one look of a search by halves leaves.
use Rattle.std.proofs.Common.{◌≡◌, ℕ, ◌+◌, ◌*◌, ◌^◌, ◌<◌, ◌≤◌, zero, suc, subst, arith}
use Rattle.std.proofs.Math.Nat.{pow-suc}
use Rattle.chunk_list.specs.inner.Halves.{StepsLeft}

-- a half is held by one bit less
one_bit_less : (gap left now next bound j : ℕ) → next ≡ now + 1 → 0 < gap → left * 2 ≤ gap → gap < 2 ^ j
    → now + j ≤ bound → (i : ℕ) × (left < 2 ^ i) × (next + i ≤ bound)
one_bit_less gap left now next bound zero is some half fits le = absurd (omega arith)
one_bit_less gap left now next bound (suc j) is some half fits le =
    let all : gap < 2 ^ j * 2 = subst (λ (n : ℕ). gap < n) (pow-suc 2 j) fits in
    (j, omega arith, omega arith)

pub look : (n gap left from now next : ℕ) → StepsLeft n gap from now → next ≡ now + 1 → 0 < gap → left * 2 ≤ gap
    → StepsLeft n left from next
look n gap left from now next s is some half = λ k fits.
    let old = s k fits in
    one_bit_less gap left now next (from + k) old.0 is some half old.1 old.2
