-- After each call the replica takes more steps.
use Rattle.acceptance.proofs.volumes.stage_each.Given as goal

abbrev pub invariant-loop-call : goal.invariant-loop-call
invariant-loop-call g l = (kept : _) × g.R.Replica.stages l.replica kept
