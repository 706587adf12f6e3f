-- Words of private functions: one piece of an input.
use Rattle.std.specs.Prelude.{◌≡◌, ℕ, ◌≤◌, List, ◌++◌, Option, length}
use Rattle.std.specs.Io.KnownBytes.{Consumes, IsAtEnd}

-- the next n bytes of the source were added; none only at its end
pub record AddsNext (before now : Option (List ℕ)) (old new : List ℕ) (n : ℕ) : Type 0 where
  pub given : List ℕ
  pub many : length given ≡ n
  pub added : new ≡ old ++ given
  pub consumed : Consumes before now given
  pub ended : n ≡ 0 → IsAtEnd now

-- the next bytes of the source are lost, at most so many
abbrev pub Loses : ℕ → Option (List ℕ) → Option (List ℕ) → Type 0
Loses most before now = (lost : List ℕ) × (length lost ≤ most) × Consumes before now lost
