-- The commands on indexes: index-create, index-delete, index-list, query, range and keys.
use Rattle.std.specs.Prelude.{false, List, map, Option, Some, None, Result, Ok, Err}
use Rattle.index_tables.specs.Order.{Key}
use Rattle.conflicts.specs.State.{Text}
use Rattle.replica_state.specs.Held.{Lists, meaning_of}
use Rattle.replica_state.specs.Keyed.{keyed}
use Rattle.replica_core.specs.Commands.Documents.{document_lines}
use Rattle.replica_core.specs.CallsDecide.{create_decides, delete_index_decides}
use Rattle.replica_core.specs.Commands.Effects.{Effect, Index, IndexDeleted, IndexMade, Keyed, OfIndex, Query, Refusal}
use Rattle.replica_core.specs.Commands.Effects.{calls, prints}
use Rattle.replica_core.specs.declared.calls.indexes.IndexFault.TheVariants.{IndexUnknown}
use Rattle.replica_reads.specs.Answers.{keys_by}
use Rattle.replica_reads.specs.Indexes.{queried, ranged}
use Rattle.replica_reads.specs.declared.fault.QueryFault.{QueryFault}

-- index-create, with the canonical texts of the expressions: an index that is there with the same ones stays
abbrev pub index_create_effect : Lists → Text → List Text → Result Effect Refusal
index_create_effect l name exprs = calls (λ done. IndexMade name) OfIndex (create_decides name exprs (meaning_of l))

abbrev pub index_delete_effect : Lists → Text → Result Effect Refusal
index_delete_effect l name = calls (λ done. IndexDeleted name) OfIndex (delete_index_decides name (meaning_of l))

-- index-list: the indexes by their names
abbrev pub index_list_effect : Lists → Result Effect Refusal
index_list_effect l = prints (map (λ index. Index index.0 index.1) l.indexes)

-- ---- answers

-- what an index answers is printed as documents
abbrev pub answer_effect : Lists → Result (List Text) QueryFault → Result Effect Refusal
answer_effect l (Ok ids) = prints (document_lines (meaning_of l) false ids)
answer_effect l (Err fault) = Err (Query fault)

-- what is done with the expressions of an index, if there is one
abbrev pub of_index : Option (List Text) → (List Text → Result Effect Refusal) → Result Effect Refusal
of_index None effect = Err (OfIndex IndexUnknown)
of_index (Some exprs) effect = effect exprs

abbrev pub query_effect : Lists → Text → List Text → Result Effect Refusal
query_effect l name values = of_index ((meaning_of l).index name)
    (λ exprs. answer_effect l (queried exprs l.docs values))

-- range: an end that is left out bounds nothing
abbrev pub range_effect : Lists → Text → Option Key → Option Key → Result Effect Refusal
range_effect l name start end =
    of_index ((meaning_of l).index name) (λ exprs. answer_effect l (ranged exprs l.docs start end))

abbrev pub keys_effect : Lists → Text → Result Effect Refusal
keys_effect l name =
    of_index ((meaning_of l).index name) (λ exprs. prints (map Keyed (keys_by (keyed exprs l.docs))))
