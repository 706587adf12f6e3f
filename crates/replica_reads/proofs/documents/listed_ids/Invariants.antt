-- The ids are those of the first documents.
use Rattle.std.proofs.Common.{◌≡◌, take}
use Rattle.replica_reads.specs.Documents.{ids_of}
use Rattle.replica_reads.proofs.documents.listed_ids.Given as goal

abbrev pub invariant-loop-place : goal.invariant-loop-place
invariant-loop-place l = record {
  walk : l.walk ≡ l.docs.pairs;
  ids : l.ids ≡ ids_of l.deleted (take l.place l.docs.pairs);
}
