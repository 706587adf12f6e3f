-- The texts of a list's items, printed place by place.
use Rattle.std.proofs.Common.{◌≡◌, ℕ, ◌+◌, ◌≤◌, List, length, take, get_or, Some, None, Ok, Err, sym, subst, refl, inl}
use Rattle.std.proofs.Common.{inr, ◌<◌}
use Rattle.std.proofs.lemmas.Option.{get_or_from_slice_get, slice_get_within, slice_get_cases, slice_get_read}
use Rattle.std.specs.List.{flat_map, slice_get}
use Rattle.link.specs.Streams.{Output}
use Rattle.command_lines.specs.Puts.{Puts}
use Rattle.command_lines.specs.declared.put.PrintFault.{PrintFault}
use Rattle.command_lines.proofs.Listing.{broken_at, one_more_of}

pub past_end : {X : Type 0} (xs : List X) (i : ℕ) → None ≡ slice_get xs i → length xs ≤ i
past_end xs i none = elim (slice_get_cases xs i).1 [
  | inl there ↦ absurd (cc)
  | inr past ↦ past.0
]

-- an item of a walk is there
pub item_there : {X : Type 0} (xs : List X) (i : ℕ) (x : X) → i < length xs → x ≡ get_or xs i x
    → Some x ≡ slice_get xs i
item_there xs i x low is = sym (slice_get_read xs (length xs) i x refl low is)

module _ {X : Type 0} (f : X → List ℕ) (xs : List X) (i : ℕ) where
  pub more_there : (x : X) (a b c : Output) → Some x ≡ slice_get xs i → Puts (flat_map f (take i xs)) a b (Ok tt)
      → Puts (f x) b c (Ok tt) → Puts (flat_map f (take (i + 1) xs)) a c (Ok tt)
  more_there x a b c there first next =
      one_more_of f xs i x a b c (slice_get_within xs i x (sym there)) first
      (subst (λ (y : X). Puts (f y) b c (Ok tt)) (sym (get_or_from_slice_get xs i x x (sym there))) next)

  pub broke_there : (x : X) (a b c : Output) (fault : PrintFault) → Some x ≡ slice_get xs i
      → Puts (flat_map f (take i xs)) a b (Ok tt)
      → Puts (f x) b c (Err fault) → Puts (flat_map f xs) a c (Err fault)
  broke_there x a b c fault there first next =
      broken_at f xs i x a b c fault (slice_get_within xs i x (sym there)) first
      (subst (λ (y : X). Puts (f y) b c (Err fault)) (sym (get_or_from_slice_get xs i x x (sym there))) next)
