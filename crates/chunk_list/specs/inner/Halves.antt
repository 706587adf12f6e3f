-- How many looks a search by halves has left.
use Rattle.std.specs.Prelude.{ℕ, ◌+◌, ◌^◌, ◌<◌, ◌≤◌}

-- of a search over n places, which began with the counter at `from`, `gap` places are left: for each k bits that
-- hold n, there are j bits that hold the gap, and j looks more are within k of the beginning
abbrev pub StepsLeft : ℕ → ℕ → ℕ → ℕ → Type 0
StepsLeft n gap from now = (k : ℕ) → n < 2 ^ k → (j : ℕ) × (gap < 2 ^ j) × (now + j ≤ from + k)
