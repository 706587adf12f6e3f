-- List by list.
use Rattle.replica_reads.proofs.SameStates.{same_lists}
use Rattle.replica_reads.proofs.laws.law_lists.Goals as goal

pub returns : goal.returns
returns c = same_lists
