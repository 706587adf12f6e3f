-- The pairs are those of the first documents.
use Rattle.std.proofs.Common.{◌≡◌, take}
use Rattle.index_tables.specs.Documents.{IsTableOf}
use Rattle.replica_state.specs.Keyed.{keyed}
use Rattle.replica_state.proofs.build.pairs_of_all.Given as goal

abbrev pub invariant-loop-place : goal.invariant-loop-place
invariant-loop-place l = record {
  walk : l.walk ≡ l.docs.pairs;
  table : IsTableOf (keyed l.exprs.texts (take l.place l.docs.pairs)) l.pairs;
}
