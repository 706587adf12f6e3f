-- What is left of a list where one value may cover another: those that no other one dominates. `covers` is a preorder.
use Rattle.std.specs.Prelude.{Bool, cond, not, ◌&&◌, List, [], ◌∷◌, ◌++◌, filter}
use Rattle.std.specs.List.{list_any}

module _ {A : Type 0} (covers : A → A → Bool) where
  -- x covers y and is not equal to it
  abbrev pub is_above : A → A → Bool
  is_above x y = covers x y && not (covers y x)

  abbrev pub is_equal : A → A → Bool
  is_equal x y = covers x y && covers y x

  -- each value once, at its last place
  abbrev pub last_ones : List A → List A
  last_ones [] = []
  last_ones (x ∷ xs) = cond (list_any (λ y. is_equal y x) xs) (last_ones xs) (x ∷ last_ones xs)

  -- the values that no other one dominates, each once, in the order of their last places
  abbrev pub undominated : List A → List A
  undominated xs = filter (λ x. not (list_any (λ y. is_above y x) xs)) (last_ones xs)

  -- one more value: it drops what it covers and stands last; a dominated one changes nothing
  abbrev pub pruned : List A → A → List A
  pruned ms a = cond (list_any (λ m. is_above m a) ms) ms (filter (λ m. not (covers a m)) ms ++ a ∷ [])
