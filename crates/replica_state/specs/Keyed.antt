-- Documents with the keys that an index has of them, and the table of an index over them.
use Rattle.std.specs.Prelude.{List, [], map, Option, Some, None}
use Rattle.std.specs.List.{All}
use Rattle.content.specs.Tree.{Tree}
use Rattle.conflicts.specs.Kept.{Kept, current}
use Rattle.conflicts.specs.State.{Text}
use Rattle.expr_parser.specs.Reading.{forms_in}
use Rattle.expr_eval.specs.Keys.{keys_of}
use Rattle.index_tables.specs.Documents.{Documents, IsTableOf}
use Rattle.index_tables.specs.Order.{Key}
use Rattle.replica_state.specs.declared.index.Index.{Index}

-- documents by their ids
abbrev pub Docs : Type 0
Docs = List (Text × Kept)

-- the keys of a content for the expressions of some canonical texts; a deleted document has none
abbrev pub keys_in : List Text → Option Tree → List Key
keys_in exprs None = []
keys_in exprs (Some tree) = keys_of (forms_in exprs) tree

-- the keys of a document: those of the content of its current member
abbrev pub keys_of_kept : List Text → Kept → List Key
keys_of_kept exprs kept = keys_in exprs (current kept).content

-- the keys of what stands at an id
abbrev pub keys_there : List Text → Option Kept → List Key
keys_there exprs None = []
keys_there exprs (Some kept) = keys_of_kept exprs kept

-- all documents with their keys
abbrev pub keyed : List Text → Docs → Documents
keyed exprs docs = map (λ d. (d.0, keys_of_kept exprs d.1)) docs

-- the table of an index holds the pairs of these keys and ids, and no others
abbrev pub IsTable : Docs → Index → Type 0
IsTable docs index = IsTableOf (keyed index.exprs.texts docs) index.table.pairs

abbrev pub AreTables : Docs → List Index → Type 0
AreTables docs indexes = All (IsTable docs) indexes
