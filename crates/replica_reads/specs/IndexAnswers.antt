-- What the index of a name answers, by the lists of a state.
use Rattle.std.specs.Prelude.{◌≡◌, List, Option, Result}
use Rattle.std.specs.FinMap.Entries.{find}
use Rattle.std.specs.Option.{option_map}
use Rattle.u1_base.specs.Ids.{id_cmp}
use Rattle.conflicts.specs.State.{Text}
use Rattle.index_tables.specs.Order.{Key}
use Rattle.query_range.specs.Answers.{keys_of}
use Rattle.replica_state.specs.Held.{Held, Lists, lists_of}
use Rattle.replica_state.specs.Keyed.{keyed}
use Rattle.replica_state.specs.Lent.{IsLent}
use Rattle.replica_state.specs.declared.index.Index.{Index}
use Rattle.replica_reads.specs.Answers.{keys_by}
use Rattle.replica_reads.specs.Indexes.{looked_up, queried, ranged, searched}
use Rattle.replica_reads.specs.declared.fault.QueryFault.{QueryFault}

-- ---- by the documents, with the expressions of the index; none where there is no index of that name

-- what a query with these values answers
abbrev pub query_of : Lists → Text → List Text → Option (Result (List Text) QueryFault)
query_of l name values = option_map (λ exprs. queried exprs l.docs values) (find id_cmp name l.indexes)

-- what a range answers
abbrev pub range_of : Lists → Text → Option Key → Option Key → Option (Result (List Text) QueryFault)
range_of l name start end = option_map (λ exprs. ranged exprs l.docs start end) (find id_cmp name l.indexes)

-- the keys, in order, each once
abbrev pub index_keys_of : Lists → Text → Option (List Key)
index_keys_of l name = option_map (λ exprs. keys_by (keyed exprs l.docs)) (find id_cmp name l.indexes)

-- ---- the law

-- OF THE INDEX THAT A STATE LENDS the pairs give what the lists of this state say
pub record AnswersOfLists : Type 0 where
  pub query : (s : Held) (name : Text) (lent : Option Index) (values : List Text) → IsLent s name lent
      → option_map (λ index. searched index values) lent ≡ query_of (lists_of s) name values
  pub range : (s : Held) (name : Text) (lent : Option Index) (start end : Option Key) → IsLent s name lent
      → option_map (λ index. looked_up index start end) lent ≡ range_of (lists_of s) name start end
  pub keys : (s : Held) (name : Text) (lent : Option Index) → IsLent s name lent
      → option_map (λ index. keys_of index.table.pairs) lent ≡ index_keys_of (lists_of s) name
