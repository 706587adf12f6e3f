-- Texts that are cut at slashes; 47 is `/`.
use Rattle.std.specs.Prelude.{ℕ, Bool, true, false, ◌==◌, List, [], ◌∷◌}
use Rattle.std.specs.List.{before_first, after_first}

-- what stands before the first slash, or all where there is none
abbrev pub part_of : List ℕ → List ℕ
part_of text = before_first (λ b. b == 47) text

-- what stands after it, or nothing
abbrev pub rest_of : List ℕ → List ℕ
rest_of text = after_first (λ b. b == 47) text

abbrev pub is_empty : List ℕ → Bool
is_empty [] = true
is_empty (b ∷ bytes) = false
