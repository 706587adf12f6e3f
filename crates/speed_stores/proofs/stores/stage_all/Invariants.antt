-- After each step the replica takes more of them.
use Rattle.speed_stores.proofs.stores.stage_all.Given as goal

abbrev pub invariant-loop-step : goal.invariant-loop-step
invariant-loop-step g l = (kept : _) × g.R.Replica.stages l.replica kept
