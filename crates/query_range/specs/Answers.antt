-- What an index answers: filters of its entries, and of the documents that these are of.
use Rattle.std.specs.Prelude.{◌≡◌, ℕ, Bool, true, not, ◌&&◌, List, [], ◌∷◌, length, map, filter, Option, Some, None}
use Rattle.std.specs.Borrow.{Bor}
use Rattle.std.specs.List.{AllPairs, list_any}
use Rattle.std.specs.Option.{option_copied}
use Rattle.std.specs.Ordering.{eq_by_cmp, is_le}
use Rattle.std.specs.declared.cmp.Ordering.{Ordering}
use Rattle.std.specs.declared.cmp.Ordering.TheVariants.{Less}
use Rattle.u1_base.specs.Ids.{id_cmp, same_id}
use Rattle.index_tables.specs.Documents.{Documents, IsTableOf, has_key, keys_at}
use Rattle.index_tables.specs.Entries.{has, is_of}
use Rattle.index_tables.specs.Order.{Entry, IsInOrder, Key, entry_cmp, key_cmp, same_key}

-- each item once, at its first place: what ties with an earlier one is left out
abbrev pub firsts : {X : Type 0} → (X → X → Ordering) → List X → List X
firsts R [] = []
firsts R (x ∷ xs) = x ∷ filter (λ y. not (eq_by_cmp R y x)) (firsts R xs)

-- the entries with a wanted key
abbrev pub wanted_of : (Key → Bool) → List Entry → List Entry
wanted_of wanted entries = filter (λ entry. wanted entry.0) entries

-- the answer for the wanted keys: the documents of the entries with such a key, each once, in the order of these
-- entries. In a table that is the order of their least wanted keys and then of their ids (`IsAnswer`)
abbrev pub answer : (Key → Bool) → List Entry → List (List ℕ)
answer wanted entries = firsts id_cmp (map (λ entry. entry.1) (wanted_of wanted entries))

-- the keys of the entries, each once, in the order of the entries
abbrev pub keys_of : List Entry → List Key
keys_of entries = firsts key_cmp (map (λ entry. entry.0) entries)

-- whether a key lies between two ends, which both belong to the range. An end that is left out bounds nothing
abbrev pub is_from : Option Key → Key → Bool
is_from None key = true
is_from (Some start) key = is_le (key_cmp start key)

abbrev pub is_to : Option Key → Key → Bool
is_to None key = true
is_to (Some end) key = is_le (key_cmp key end)

abbrev pub is_between : Option Key → Option Key → Key → Bool
is_between start end key = is_from start key && is_to end key

-- the same where the ends are lent
abbrev pub is_within : Option (Bor Key) → Option (Bor Key) → Key → Bool
is_within start end = is_between (option_copied start) (option_copied end)

-- ---- answers by entries

-- a document's least wanted key
pub record IsLeastKey (wanted : Key → Bool) (entries : List Entry) (id : List ℕ) (key : Key) : Type 0 where
  pub there : has entries (key, id) ≡ true
  pub is_wanted : wanted key ≡ true
  pub least : (other : Key) → has entries (other, id) ≡ true → wanted other ≡ true → is_le (key_cmp key other) ≡ true

-- the documents that have a wanted key and no others, by their least wanted keys and then by id. So each stands once
pub record IsAnswer (wanted : Key → Bool) (entries : List Entry) (ids : List (List ℕ)) : Type 0 where
  pub members : (id : List ℕ) → list_any (same_id id) ids ≡ list_any (λ entry. is_of id entry && wanted entry.0) entries
  pub order : AllPairs (λ id later. (key other : Key) → IsLeastKey wanted entries id key
      → IsLeastKey wanted entries later other → entry_cmp (key, id) (other, later) ≡ Less) ids

-- the keys of the entries and no others. They rise, so each stands once
pub record AreKeys (entries : List Entry) (keys : List Key) : Type 0 where
  pub members : (key : Key) → has_key keys key ≡ list_any (λ entry. same_key key entry.0) entries
  pub order : AllPairs (λ key later. key_cmp key later ≡ Less) keys

-- ---- answers by documents

-- the least wanted one of some keys
pub record IsLeastOf (wanted : Key → Bool) (keys : List Key) (key : Key) : Type 0 where
  pub there : has_key keys key ≡ true
  pub is_wanted : wanted key ≡ true
  pub least : (other : Key) → has_key keys other ≡ true → wanted other ≡ true → is_le (key_cmp key other) ≡ true

-- a document goes before another: by their least wanted keys, and then by id
abbrev pub GoesBefore : (Key → Bool) → Documents → List ℕ → List ℕ → Type 0
GoesBefore wanted documents id later =
    (key other : Key) → IsLeastOf wanted (keys_at documents id) key → IsLeastOf wanted (keys_at documents later) other
    → entry_cmp (key, id) (other, later) ≡ Less

-- THE ANSWER OF AN INDEX: the documents that have a wanted key and no others, by their least wanted keys and then by
-- id, each once
pub record IsAnswerBy (wanted : Key → Bool) (documents : Documents) (ids : List (List ℕ)) : Type 0 where
  pub members : (id : List ℕ) → list_any (same_id id) ids ≡ list_any wanted (keys_at documents id)
  pub order : AllPairs (GoesBefore wanted documents) ids

-- THE KEYS OF AN INDEX: those of the documents and no others. They rise, so each stands once
pub record AreKeysBy (documents : Documents) (keys : List Key) : Type 0 where
  pub all : (id : List ℕ) (key : Key) → has_key (keys_at documents id) key ≡ true → has_key keys key ≡ true
  pub no_others : (key : Key) → has_key keys key ≡ true → (id : List ℕ) × (has_key (keys_at documents id) key ≡ true)
  pub order : AllPairs (λ key later. key_cmp key later ≡ Less) keys

-- what the table of documents answers is the answer by these documents, and there is no other
pub record AnswersByDocuments : Type 0 where
  pub found : (wanted : Key → Bool) (documents : Documents) (entries : List Entry) (ids : List (List ℕ))
      → IsTableOf documents entries → IsAnswer wanted entries ids → IsAnswerBy wanted documents ids
  pub one : (wanted : Key → Bool) (documents : Documents) (ids others : List (List ℕ))
      → IsAnswerBy wanted documents ids → IsAnswerBy wanted documents others → ids ≡ others
  pub keys : (documents : Documents) (entries : List Entry) (keys : List Key) → IsTableOf documents entries
      → AreKeys entries keys → AreKeysBy documents keys
