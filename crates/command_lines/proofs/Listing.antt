-- The texts of a list's items, printed one after the other.
use Rattle.std.proofs.Common.{◌≡◌, ℕ, ◌+◌, ◌<◌, ◌≤◌, List, [], ◌∷◌, ◌++◌, length, take, drop, get_or, Ok, Err, sym, ap}
use Rattle.std.proofs.Common.{◌∙◌, append-nil}
use Rattle.std.proofs.lemmas.Grind.{flat_map-append}
use Rattle.std.proofs.lemmas.List.{take-append-drop, take_all, take_more}
use Rattle.std.specs.List.{flat_map}
use Rattle.link.specs.Streams.{Output}
use Rattle.command_lines.specs.Puts.{Puts}
use Rattle.command_lines.specs.declared.put.PrintFault.{PrintFault}
use Rattle.command_lines.proofs.Putting.{puts_as, puts_front, puts_nothing, puts_then}

module _ {X : Type 0} (f : X → List ℕ) (xs : List X) where
  pub none_of : (out : Output) → Puts (flat_map f (take 0 xs)) out out (Ok tt)
  none_of out = puts_nothing out

  -- the texts of the first items and of the next one
  joined : (i : ℕ) (d : X) → i < length xs → flat_map f (take i xs) ++ f (get_or xs i d) ≡ flat_map f (take (i + 1) xs)
  joined i d low =
      let next : take (i + 1) xs ≡ take i xs ++ get_or xs i d ∷ [] = take_more xs i d low in
      ap (λ (text : List ℕ). flat_map f (take i xs) ++ text) (sym (append-nil (f (get_or xs i d))))
      ∙ sym (flat_map-append f (take i xs) (get_or xs i d ∷ []))
      ∙ ap (flat_map f) (sym next)

  pub one_more_of : (i : ℕ) (d : X) (a b c : Output) → i < length xs → Puts (flat_map f (take i xs)) a b (Ok tt)
      → Puts (f (get_or xs i d)) b c (Ok tt) → Puts (flat_map f (take (i + 1) xs)) a c (Ok tt)
  one_more_of i d a b c low first next =
      puts_as _ _ a c (Ok tt) (joined i d low)
      (puts_then (flat_map f (take i xs)) (f (get_or xs i d)) a b c (Ok tt) first next)

  pub broken_at : (i : ℕ) (d : X) (a b c : Output) (fault : PrintFault) → i < length xs
      → Puts (flat_map f (take i xs)) a b (Ok tt)
      → Puts (f (get_or xs i d)) b c (Err fault) → Puts (flat_map f xs) a c (Err fault)
  broken_at i d a b c fault low first next =
      let part : Puts (flat_map f (take (i + 1) xs)) a c (Err fault) =
      puts_as _ _ a c (Err fault) (joined i d low)
      (puts_then (flat_map f (take i xs)) (f (get_or xs i d)) a b c (Err fault) first next) in
      puts_as _ _ a c (Err fault)
      (sym (flat_map-append f (take (i + 1) xs) (drop (i + 1) xs)) ∙ ap (flat_map f) (take-append-drop (i + 1) xs))
      (puts_front (flat_map f (take (i + 1) xs)) (flat_map f (drop (i + 1) xs)) a c fault part)

  pub all_of : (i : ℕ) (a b : Output) → length xs ≤ i → Puts (flat_map f (take i xs)) a b (Ok tt)
      → Puts (flat_map f xs) a b (Ok tt)
  all_of i a b high puts = puts_as _ _ a b (Ok tt) (ap (flat_map f) (take_all i xs high)) puts
