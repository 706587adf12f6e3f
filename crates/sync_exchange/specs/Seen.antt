-- What a table of documents with generations says of a change.
use Rattle.std.specs.Prelude.{◌≡◌, ℕ, Bool, false, nat_le, List, Option, Some, None}
use Rattle.std.specs.FinMap.Entries.{find}
use Rattle.u1_base.specs.Ids.{id_cmp}
use Rattle.translog.specs.declared.entry.Change.{Change}
use Rattle.conflicts.specs.State.{Text}
use Rattle.sync_stream.specs.Serving.{Held, is_held}

-- a generation up to which something is known, if it is, is not below n
abbrev pub reaches : ℕ → Option ℕ → Bool
reaches n None = false
reaches n (Some g) = nat_le n g

-- the source has what the change made of its document
abbrev pub is_seen : List (Text × ℕ) → Change → Bool
is_seen pairs change = reaches change.generation (find id_cmp change.doc pairs)

-- the pairs say of every change what the documents say that the source has
abbrev pub SeesAs : List (Text × ℕ) → List Held → Type 0
SeesAs pairs held = (change : Change) → is_seen pairs change ≡ is_held held change
