-- After each step the replica is open.
use Rattle.speed_stores.proofs.stores.commit_all.Given as goal

abbrev pub invariant-loop-step : goal.invariant-loop-step
invariant-loop-step g l = g.R.Replica.is_open l.replica
