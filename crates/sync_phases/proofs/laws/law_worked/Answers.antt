use Rattle.sync_phases.proofs.Worked.{worked}
use Rattle.sync_phases.proofs.laws.law_worked.Goals as goal

pub returns : goal.returns
returns c = worked
