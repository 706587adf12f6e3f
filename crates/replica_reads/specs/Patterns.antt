-- Which pattern the values of a query are, or why they are none.
use Rattle.std.specs.Prelude.{ℕ, suc, Bool, true, ◌==◌, if◌then◌else◌, List, [], ◌∷◌, length, map, Option, Some, None}
use Rattle.std.specs.Prelude.{Result, Ok, Err}
use Rattle.std.specs.Option.{option_map}
use Rattle.index_tables.specs.Order.{Key}
use Rattle.query_range.specs.Patterns.{is_any, is_open, part_of}
use Rattle.query_range.specs.declared.pattern.Part.{Part}
use Rattle.replica_reads.specs.declared.fault.QueryFault.{QueryFault}
use Rattle.replica_reads.specs.declared.fault.QueryFault.TheVariants.{WrongWidth, BadGlob}

-- the place of the first part that is not any
abbrev pub first_other : List Part → Option ℕ
first_other [] = None
first_other (part ∷ parts) = if is_any part then option_map suc (first_other parts) else Some 0

-- the place of the first part that breaks the rule: after the first that is a prefix or any, the first that is not any
abbrev pub bad_glob : List Part → Option ℕ
bad_glob [] = None
bad_glob (part ∷ parts) = option_map suc (if is_open part then first_other parts else bad_glob parts)

abbrev pub unless_at : Option ℕ → List Part → Result (List Part) QueryFault
unless_at None parts = Ok parts
unless_at (Some place) parts = Err (BadGlob place)

-- the pattern of the values of a query, at an index of so many expressions, or the first reason why they are none
abbrev pub pattern_in : List (List ℕ) → ℕ → Result (List Part) QueryFault
pattern_in values width =
    if length values == width then unless_at (bad_glob (map part_of values)) (map part_of values) else Err WrongWidth

-- whether an end of a range, if it is given, has a text for each of so many expressions
abbrev pub has_width : ℕ → Option Key → Bool
has_width width None = true
has_width width (Some key) = length key == width
