-- A word and its place.
use Rattle.std.specs.Prelude.{ℕ, List, [], slice_get, unwrap_or}

-- a word: its place, the directory being word 0, and its text
abbrev pub Word : Type 0
Word = ℕ × List ℕ

-- the operand at a place among the operands; a command asks only for operands that are there
abbrev pub word_at : List Word → ℕ → Word
word_at words i = unwrap_or (slice_get words i) (0, [])
