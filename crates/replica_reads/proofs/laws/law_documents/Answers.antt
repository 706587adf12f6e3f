-- Which ids are listed.
use Rattle.replica_reads.proofs.ListedDocuments.{listed_members, listed_rises}
use Rattle.replica_reads.proofs.laws.law_documents.Goals as goal

pub returns : goal.returns
returns c = record { members = listed_members; order = listed_rises }
