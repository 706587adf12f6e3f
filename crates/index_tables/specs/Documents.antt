-- Documents with their keys, and the table of an index over them.
use Rattle.std.specs.Prelude.{◌≡◌, ℕ, Bool, List, [], ◌∷◌, ◌++◌, length, None}
use Rattle.std.specs.FinMap.Entries.{find, put}
use Rattle.std.specs.List.{All, list_any}
use Rattle.std.specs.Option.{unwrap_or}
use Rattle.u1_base.specs.Ids.{id_cmp}
use Rattle.index_tables.specs.Entries.{AreNew, HaveWidth, HoldsBoth, entries_of, has, not_among}
use Rattle.index_tables.specs.Order.{Entry, IsInOrder, Key, same_key}

-- ids of documents, and the keys that an index has of their contents. A deleted document has none
abbrev pub Documents : Type 0
Documents = List (List ℕ × List Key)

-- the keys of the document at an id; none where there is none
abbrev pub keys_at : Documents → List ℕ → List Key
keys_at documents id = unwrap_or (find id_cmp id documents) []

-- whether a key stands among others
abbrev pub has_key : List Key → Key → Bool
has_key keys key = list_any (same_key key) keys

-- the entries are those of the documents: there is one of a key and an id exactly where that document has this key
abbrev pub IsTableOf : Documents → List Entry → Type 0
IsTableOf documents entries = (p : Entry) → has entries p ≡ has_key (keys_at documents p.1) p.0

-- the entries that are left where those of a document go
abbrev pub dropped : Documents → List ℕ → List Entry → List Entry
dropped documents id entries = not_among (entries_of id (keys_at documents id)) entries

-- ---- what holds of all tables over documents

-- one document changes: its entries go, those of its new keys are new then, and with them it is the table again
pub record FollowsChanges : Type 0 where
  pub are_new : (documents : Documents) (entries : List Entry) (id : List ℕ) (keys : List Key)
      → IsTableOf documents entries → AreNew (dropped documents id entries) (entries_of id keys)
  pub is_table : (documents : Documents) (entries new : List Entry) (id : List ℕ) (keys : List Key)
      → IsTableOf documents entries → HoldsBoth (dropped documents id entries) (entries_of id keys) new
      → IsTableOf (put id_cmp id keys documents) new

-- a table is built document by document: the entries of one that is not there yet are new
pub record FollowsGrowth : Type 0 where
  pub starts : IsTableOf [] []
  pub are_new : (documents : Documents) (entries : List Entry) (id : List ℕ) (keys : List Key)
      → IsTableOf documents entries → find id_cmp id documents ≡ None → AreNew entries (entries_of id keys)
  pub is_table : (documents : Documents) (entries new : List Entry) (id : List ℕ) (keys : List Key)
      → IsTableOf documents entries → find id_cmp id documents ≡ None → HoldsBoth entries (entries_of id keys) new
      → IsTableOf (documents ++ (id, keys) ∷ []) new

-- documents tell their table, and keys of one width give entries of this width
pub record IsToldByDocuments : Type 0 where
  pub one : (documents : Documents) (entries others : List Entry) → IsInOrder entries → IsInOrder others
      → IsTableOf documents entries → IsTableOf documents others → entries ≡ others
  pub width : (width : ℕ) (documents : Documents) (entries : List Entry)
      → ((id : List ℕ) → All (λ key. length key ≡ width) (keys_at documents id)) → IsTableOf documents entries
      → HaveWidth width entries
