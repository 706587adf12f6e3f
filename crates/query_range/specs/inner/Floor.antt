-- Where the keys that meet a pattern begin.
use Rattle.std.specs.Prelude.{ℕ, List, [], ◌∷◌}
use Rattle.query_range.specs.declared.pattern.Part.{Part}
use Rattle.query_range.specs.declared.pattern.Part.TheVariants.{Exact, Prefix, Any}

-- the exact texts, and the prefix after them: no key that meets the pattern is below this list
abbrev pub floor_of : List Part → List (List ℕ)
floor_of [] = []
floor_of (Exact exact ∷ parts) = exact ∷ floor_of parts
floor_of (Prefix prefix ∷ parts) = prefix ∷ []
floor_of (Any ∷ parts) = []
