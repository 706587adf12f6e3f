-- After every list of steps each two replicas are paired.
use Rattle.world_laws.proofs.Paired.{positions}
use Rattle.world_laws.proofs.laws.law_positions.Goals as goal

pub returns : goal.returns
returns c = positions
