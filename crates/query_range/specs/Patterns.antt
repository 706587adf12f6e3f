-- Patterns: what the values of a query ask of the texts of a key.
use Rattle.std.specs.Prelude.{◌≡◌, ◌≢◌, ℕ, ◌-◌, ◌<◌, Bool, true, false, cond, ◌&&◌, nat_eq, List, [], ◌∷◌, length, map}
use Rattle.std.specs.Prelude.{take, codes, Result, Ok, Err}
use Rattle.std.specs.Cmp.Lexicographic.{pointwise}
use Rattle.std.specs.List.{AllPairs, HoldsAt, list_any, starts_with, ends_with}
use Rattle.query_range.specs.declared.pattern.Part.{Part}
use Rattle.query_range.specs.declared.pattern.Part.TheVariants.{Exact, Prefix, Any}
use Rattle.query_range.specs.declared.fault.PatternFault.{PatternFault}
use Rattle.query_range.specs.declared.fault.PatternFault.TheVariants.{WrongWidth, BadGlob, Memory}

-- what stands before the star of a value that ends in one: any text, if that is nothing, or else a prefix
abbrev pub before_star : List ℕ → Part
before_star [] = Any
before_star (x ∷ xs) = Prefix (x ∷ xs)

-- a value is exact, unless it ends in a star
abbrev pub part_of : List ℕ → Part
part_of value = cond (ends_with nat_eq value (codes "*")) (before_star (take (length value - 1) value)) (Exact value)

-- whether a text is what a part asks for
abbrev pub part_meets : Part → List ℕ → Bool
part_meets (Exact exact) text = pointwise nat_eq text exact
part_meets (Prefix prefix) text = starts_with nat_eq text prefix
part_meets Any text = true

-- whether a key is what a pattern asks for: it has as many texts, and each is what its part asks for
abbrev pub meets : List Part → List (List ℕ) → Bool
meets [] [] = true
meets [] (text ∷ texts) = false
meets (part ∷ parts) [] = false
meets (part ∷ parts) (text ∷ texts) = part_meets part text && meets parts texts

-- whether a part lets every text through
abbrev pub is_any : Part → Bool
is_any (Exact exact) = false
is_any (Prefix prefix) = false
is_any Any = true

-- whether a part lets more than one text through
abbrev pub is_open : Part → Bool
is_open (Exact exact) = false
is_open (Prefix prefix) = true
is_open Any = true

-- the parts are a pattern: after a prefix or any, all parts are any
abbrev pub IsPattern : List Part → Type 0
IsPattern parts = AllPairs (λ part later. is_open part ≡ true → is_any later ≡ true) parts

-- the part at a place is the first that breaks this rule: the parts before it are a pattern, one of them is a prefix
-- or any, and this one is not any
pub record BreaksFirst (parts : List Part) (place : ℕ) : Type 0 where
  pub within : place < length parts
  pub before : IsPattern (take place parts)
  pub behind_open : list_any is_open (take place parts) ≡ true
  pub not_any : HoldsAt (λ part. is_any part ≡ false) parts place

-- what reading the values of a query answers, for an index of so many expressions. The width is tested first
abbrev pub ReadsPattern : List (List ℕ) → ℕ → Result (List Part) PatternFault → Type 0
ReadsPattern values width (Ok parts) = (length values ≡ width) × (parts ≡ map part_of values) × IsPattern parts
ReadsPattern values width (Err WrongWidth) = length values ≢ width
ReadsPattern values width (Err (BadGlob place)) = (length values ≡ width) × BreaksFirst (map part_of values) place
ReadsPattern values width (Err Memory) = Unit {0}
