-- Beside specs/Seen: words of private contracts and of proofs.
use Rattle.std.specs.Prelude.{◌≡◌, ℕ, ◌-◌, ◌<◌, ◌≤◌, Bool, true, false, List, length}
use Rattle.std.specs.List.{HoldsAt}
use Rattle.std.specs.Ordering.{is_lt}
use Rattle.index_tables.specs.Entries.{same}
use Rattle.index_tables.specs.Order.{Entry, Key, entry_cmp, key_cmp}
use Rattle.index_tables.specs.declared.pair.Pair.{Pair}
use Rattle.index_tables.specs.Seen.{entry_of}

-- whether a pair is below an entry
abbrev pub is_below : Entry → Pair → Bool
is_below entry pair = is_lt (entry_cmp (entry_of pair) entry)

-- whether the key of a pair is below a key
abbrev pub has_lower_key : Key → Pair → Bool
has_lower_key key pair = is_lt (key_cmp pair.key key)

-- a search for the pairs that pass a test, which stand first, ended at a place
pub record EndsAt (passes : Pair → Bool) (pairs : List Pair) (place : ℕ) : Type 0 where
  pub within : place ≤ length pairs
  pub before : 0 < place → HoldsAt (λ p. passes p ≡ true) pairs (place - 1)
  pub after : place < length pairs → HoldsAt (λ p. passes p ≡ false) pairs place

-- whether the entry stands at a place
pub record Tells (entry : Entry) (pairs : List Pair) (place : ℕ) (stands : Bool) : Type 0 where
  pub yes : stands ≡ true → (place < length pairs) × HoldsAt (λ p. same (entry_of p) entry ≡ true) pairs place
  pub no : stands ≡ false → place < length pairs → HoldsAt (λ p. same (entry_of p) entry ≡ false) pairs place
