-- The abbreviated key of an id. Only private clauses speak of it.
use Rattle.std.specs.Prelude.{ℕ, List}
use Rattle.key_lanes.specs.AbbreviatedKeys.{IsAbbreviatedKey}

-- a number is the abbreviated key of an id: that of its first 8 bytes. It tells most ids apart
abbrev pub IsAbbreviated : List ℕ → ℕ → Type 0
IsAbbreviated id key = IsAbbreviatedKey 8 id key
