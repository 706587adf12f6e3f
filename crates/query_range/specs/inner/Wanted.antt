-- Which keys a search through a table takes, and where it begins.
use Rattle.std.specs.Prelude.{◌≡◌, ℕ, ◌≤◌, Bool, true, false, List, drop, length, take_while, Option, Some, None}
use Rattle.std.specs.List.{AllWithin}
use Rattle.std.specs.Ordering.{is_eq, is_le}
use Rattle.index_tables.specs.Order.{Entry, Key, key_cmp}
use Rattle.query_range.specs.Answers.{is_from}
use Rattle.query_range.specs.declared.wanted.Wanted.{Wanted}
use Rattle.query_range.specs.declared.wanted.Wanted.TheVariants.{Meets, UpTo, Every}
use Rattle.query_range.specs.Patterns.{meets}

abbrev pub takes : Wanted → Key → Bool
takes (Meets pattern) key = meets pattern.now key
takes (UpTo end) key = is_le (key_cmp key end.now)
takes Every key = true

-- the place is the first whose key is not below the start of a range
pub record StartsAt (start : Option Key) (entries : List Entry) (place : ℕ) : Type 0 where
  pub within : place ≤ length entries
  pub before : AllWithin (λ p. is_from start p.0 ≡ false) entries 0 place
  pub after : AllWithin (λ p. is_from start p.0 ≡ true) entries place (length entries)

-- the entries from a place on, up to the first whose key is not taken
abbrev pub taken_from : ℕ → (Key → Bool) → List Entry → List Entry
taken_from place takes entries = take_while (λ entry. takes entry.0) (drop place entries)

-- whether there is a key, and it ties with this one
abbrev pub is_key : Option Key → Key → Bool
is_key None key = false
is_key (Some last) key = is_eq (key_cmp last key)
