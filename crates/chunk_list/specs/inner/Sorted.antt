-- Where a key stands, or would stand, among entries that are sorted by their keys.
use Rattle.std.specs.Prelude.{◌≡◌, ℕ, ◌-◌, ◌<◌, ◌≤◌, List, length}
use Rattle.std.specs.List.{HoldsAt}
use Rattle.std.specs.declared.cmp.Ordering.{Ordering}
use Rattle.std.specs.declared.cmp.Ordering.TheVariants.{Less, Equal}

module _ {K V : Type 0} (R : K → K → Ordering) (entries : List (K × V)) (key : K) where
  -- the key stands at a place
  pub record StandsAt (place : ℕ) : Type 0 where
    pub within : place < length entries
    pub same : HoldsAt (λ e. R key e.0 ≡ Equal) entries place

  -- the key is not there, and would stand at a place: behind the smaller keys, and before the greater ones
  pub record FitsAt (place : ℕ) : Type 0 where
    pub within : place ≤ length entries
    pub before : 0 < place → HoldsAt (λ e. R e.0 key ≡ Less) entries (place - 1)
    pub after : place < length entries → HoldsAt (λ e. R key e.0 ≡ Less) entries place
