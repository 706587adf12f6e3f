-- Where lines end: CR is 13 and LF is 10.
use Rattle.std.specs.Prelude.{◌≡◌, ℕ, ◌+◌, ◌<◌, ◌≤◌, List, length, slice_index}

-- CR LF stands at the place
abbrev pub IsBreak : List ℕ → ℕ → Type 0
IsBreak bytes place =
    (place + 1 < length bytes) × (slice_index bytes place ≡ 13) × (slice_index bytes (place + 1) ≡ 10)

-- it stands at no place from `low` up to `high`
abbrev pub NoBreak : List ℕ → ℕ → ℕ → Type 0
NoBreak bytes low high = (place : ℕ) → low ≤ place → place < high → ¬ (IsBreak bytes place)

-- the place is the first one at or after `from` where it stands
abbrev pub IsFirstBreak : List ℕ → ℕ → ℕ → Type 0
IsFirstBreak bytes from place = (from ≤ place) × IsBreak bytes place × NoBreak bytes from place
