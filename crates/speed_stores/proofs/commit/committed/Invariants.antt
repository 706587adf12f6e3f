-- After each batch the replica is open.
use Rattle.speed_stores.proofs.commit.committed.Given as goal

abbrev pub invariant-loop-batch : goal.invariant-loop-batch
invariant-loop-batch g l = g.R.Replica.is_open l.replica
