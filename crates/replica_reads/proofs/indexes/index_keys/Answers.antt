-- The keys of the table are those of its documents.
use Rattle.std.proofs.Common.{◌≡◌, subst}
use Rattle.std.specs.Prelude.{IfOk}
use Rattle.index_tables.specs.Table.{Indexed}
use Rattle.query_range.specs.Answers.{keys_of}
use Rattle.replica_reads.proofs.Querying.{keys_are}
use Rattle.replica_reads.proofs.indexes.index_keys.Goals as goal

pub returns-clause-documents : goal.returns-clause-documents
returns-clause-documents g c =
    λ docs table.
    keys_are c.args.index.now docs table c.distinct_keys.result
    (subst (λ (t : Indexed). IfOk c.distinct_keys.result (λ keys. keys ≡ keys_of t.pairs)) c.table.ensures.value
    c.distinct_keys.ensures.filtered)
