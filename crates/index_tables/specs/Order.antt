-- The order of keys, and of the entries of an index.
use Rattle.std.specs.Prelude.{◌≡◌, ◌≢◌, ℕ, ◌≤◌, Bool, List, length}
use Rattle.std.specs.Cmp.Lexicographic.{slice_cmp}
use Rattle.std.specs.List.{AllPairs, AllWithin}
use Rattle.std.specs.Ordering.{nat_cmp, eq_by_cmp, ordering_then}
use Rattle.std.specs.declared.cmp.Ordering.{Ordering}
use Rattle.std.specs.declared.cmp.Ordering.TheVariants.{Less}
use Rattle.u1_base.specs.Ids.{id_cmp}

-- a key is a list of texts, one of each expression of the index
abbrev pub Key : Type 0
Key = List (List ℕ)

-- an entry is a key and the id of a document that has it
abbrev pub Entry : Type 0
Entry = Key × List ℕ

-- keys go by their texts, and each text by its bytes
abbrev pub key_cmp : Key → Key → Ordering
key_cmp = slice_cmp (slice_cmp nat_cmp)

-- whether the second key is the one that is asked for
abbrev pub same_key : Key → Key → Bool
same_key = eq_by_cmp key_cmp

-- entries go by key, and those of one key by id
abbrev pub entry_cmp : Entry → Entry → Ordering
entry_cmp p q = ordering_then (key_cmp p.0 q.0) (id_cmp p.1 q.1)

-- each entry is below all later ones, so that none stands twice
abbrev pub IsInOrder : List Entry → Type 0
IsInOrder entries = AllPairs (λ p q. entry_cmp p q ≡ Less) entries

-- the place is the first one whose key is not below a given key: the keys of all entries before it are below, and
-- from it on none is
pub record FallsAt (entries : List Entry) (key : Key) (place : ℕ) : Type 0 where
  pub within : place ≤ length entries
  pub before : AllWithin (λ p. key_cmp p.0 key ≡ Less) entries 0 place
  pub after : AllWithin (λ p. key_cmp p.0 key ≢ Less) entries place (length entries)
