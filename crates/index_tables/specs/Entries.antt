-- Lists of entries as sets: what they hold, and what two of them hold together.
use Rattle.std.specs.Prelude.{◌≡◌, ℕ, Bool, true, false, not, ◌||◌, List, filter, length, map}
use Rattle.std.specs.List.{All, AllPairs, list_any}
use Rattle.std.specs.Ordering.{eq_by_cmp}
use Rattle.u1_base.specs.Ids.{same_id}
use Rattle.index_tables.specs.Order.{Entry, Key, entry_cmp}

-- whether two entries have one key and one id
abbrev pub same : Entry → Entry → Bool
same = eq_by_cmp entry_cmp

-- whether an entry stands in a list
abbrev pub has : List Entry → Entry → Bool
has entries p = list_any (same p) entries

-- whether an entry is of a document
abbrev pub is_of : List ℕ → Entry → Bool
is_of id p = same_id id p.1

-- the entries of a document: one for each of its keys
abbrev pub entries_of : List ℕ → List Key → List Entry
entries_of id keys = map (λ key. (key, id)) keys

-- the entries that are not of a document
abbrev pub not_of : List ℕ → List Entry → List Entry
not_of id entries = filter (λ p. not (is_of id p)) entries

-- the entries that are not among others
abbrev pub not_among : List Entry → List Entry → List Entry
not_among others entries = filter (λ p. not (has others p)) entries

-- no entry stands twice
abbrev pub AreDistinct : List Entry → Type 0
AreDistinct entries = AllPairs (λ p q. same p q ≡ false) entries

-- no entry of the second list stands in the first
abbrev pub AreNew : List Entry → List Entry → Type 0
AreNew entries others = (p : Entry) → has others p ≡ true → has entries p ≡ false

-- `both` holds the entries of the first two lists, and no other
abbrev pub HoldsBoth : List Entry → List Entry → List Entry → Type 0
HoldsBoth entries others both = (p : Entry) → has both p ≡ (has entries p || has others p)

-- each key has so many texts
abbrev pub HaveWidth : ℕ → List Entry → Type 0
HaveWidth width entries = All (λ p. length p.0 ≡ width) entries
