-- What one block of bytes shows.
use Rattle.std.specs.Prelude.{◌≡◌, ◌≢◌, ℕ, ◌+◌, ◌<◌, ◌≤◌, ◌==◌, ◌⊎◌, List, Option, None, Some, length, slice_index}
use Rattle.std.specs.Prelude.{if◌then◌else◌}
use Rattle.std.specs.Char.{to_ascii_lowercase}
use Rattle.std.specs.Int.{w64, trailing_zeros}

-- the place of the lowest bit that is set
abbrev pub first_set : ℕ → Option ℕ
first_set mask = if mask == 0 then None else Some (trailing_zeros w64 mask)

-- the two lists have the same bytes from `low` up to `high`
abbrev pub EqualBetween : List ℕ → List ℕ → ℕ → ℕ → Type 0
EqualBetween a b low high = (k : ℕ) → low ≤ k → k < high → slice_index a k ≡ slice_index b k

-- the place is the first one at or after `from` where the two lists differ
abbrev pub IsFirstDifference : List ℕ → List ℕ → ℕ → ℕ → Type 0
IsFirstDifference a b from place =
    (from ≤ place) × (slice_index a place ≢ slice_index b place) × EqualBetween a b from place

-- the bytes from `low` up to `high` are ASCII
abbrev pub AsciiBetween : List ℕ → ℕ → ℕ → Type 0
AsciiBetween bytes low high = (k : ℕ) → low ≤ k → k < high → slice_index bytes k < 128

-- the block is the 16 bytes from `at` on, in small letters
abbrev pub IsLowered : List ℕ → ℕ → List ℕ → Type 0
IsLowered bytes at block =
    (length block ≡ 16) × ((j : ℕ) → j < 16 → slice_index block j ≡ to_ascii_lowercase (slice_index bytes (at + j)))

-- the 16 bytes from `at` on are those of the block, and the rest is as it was
abbrev pub IsStored : List ℕ → ℕ → List ℕ → List ℕ → Type 0
IsStored old at block new =
    ((j : ℕ) → j < 16 → slice_index new (at + j) ≡ slice_index block j)
    × ((k : ℕ) → (k < at) ⊎ (at + 16 ≤ k) → slice_index new k ≡ slice_index old k)
