use Rattle.sync_phases.proofs.Taking.{goes_on}
use Rattle.sync_phases.proofs.laws.law_taking.Goals as goal

pub returns : goal.returns
returns c = goes_on
