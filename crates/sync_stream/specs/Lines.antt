-- Lines among bytes: each whole line is ended by CR LF, which are 13 and 10.
use Rattle.std.specs.Prelude.{◌≡◌, ℕ, List, [], ◌∷◌, ◌++◌, length}
use Rattle.std.specs.List.{AllByRecursion, flat_map}
use Rattle.key_lanes.specs.Breaks.{NoBreak}

-- a line and the CR LF at its end
abbrev pub ended : List ℕ → List ℕ
ended line = line ++ 13 ∷ 10 ∷ []

-- no CR LF stands in the bytes
abbrev pub IsUnbroken : List ℕ → Type 0
IsUnbroken bytes = NoBreak bytes 0 (length bytes)

-- the text is these whole lines, and then the rest
pub record Splits (text : List ℕ) (lines : List (List ℕ)) (rest : List ℕ) : Type 0 where
  pub whole : text ≡ flat_map ended lines ++ rest
  pub each : AllByRecursion IsUnbroken lines

-- the second list goes on from the first
abbrev pub GoOn : {A : Type 0} → List A → List A → Type 0
GoOn {A} xs ys = (more : List A) × (ys ≡ xs ++ more)
