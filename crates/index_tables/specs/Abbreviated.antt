-- The abbreviated key of a key: the first bytes of its first text as a number. Only private clauses speak of it.
use Rattle.std.specs.Prelude.{ℕ, List, [], ◌∷◌}
use Rattle.key_lanes.specs.AbbreviatedKeys.{IsAbbreviatedKey}

-- the first text of a key; an empty one where there is none
abbrev pub first_text : List (List ℕ) → List ℕ
first_text [] = []
first_text (text ∷ texts) = text

-- a number is the abbreviated key of a key: that of the first 16 bytes of its first text. It tells most keys apart
abbrev pub IsAbbreviated : List (List ℕ) → ℕ → Type 0
IsAbbreviated key number = IsAbbreviatedKey 16 (first_text key) number
