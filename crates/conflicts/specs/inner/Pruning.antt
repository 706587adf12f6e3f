-- Beside specs/Pruning: words of private contracts and of proofs.
use Rattle.std.specs.Prelude.{◌≡◌, Bool, true, List, [], ◌∷◌}
use Rattle.conflicts.specs.Lists.{In}
use Rattle.conflicts.specs.Pruning.{undominated, pruned}

-- each value covers itself, and what covers a value that covers a third covers the third
pub record IsPreorder {A : Type 0} (covers : A → A → Bool) : Type 0 where
  pub itself : (x : A) → covers x x ≡ true
  pub through : (x y z : A) → covers x y ≡ true → covers y z ≡ true → covers x z ≡ true

module _ {A : Type 0} (covers : A → A → Bool) where
  abbrev pub pruned_all : List A → List A → List A
  pruned_all ms [] = ms
  pruned_all ms (a ∷ later) = pruned_all (pruned covers ms a) later

  -- each value of the list is covered by one that is left
  abbrev pub AllCovered : List A → Type 0
  AllCovered xs = (x : A) → In x xs → (m : A) × In m (undominated covers xs) × (covers m x ≡ true)
