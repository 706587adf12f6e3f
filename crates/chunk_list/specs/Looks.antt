-- How often a search looks at an entry.
use Rattle.std.specs.Prelude.{ℕ, ◌+◌, ◌*◌, ◌^◌, ◌<◌, ◌≤◌}

-- a counter rose by no more than a search among n entries needs, which is two looks for each bit of n, and `more`
abbrev pub FewLooks : ℕ → ℕ → ℕ → ℕ → Type 0
FewLooks n more before now = (bits : ℕ) → n < 2 ^ bits → now ≤ before + 2 * bits + more
