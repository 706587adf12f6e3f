-- After a quiet session both sides read the same of each document that neither held in conflict.
use Rattle.world_laws.proofs.Quieting.{quiet_agrees}
use Rattle.world_laws.proofs.laws.law_quiet_sync.Goals as goal

pub returns : goal.returns
returns c = quiet_agrees
