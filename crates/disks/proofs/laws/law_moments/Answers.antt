use Rattle.disks.proofs.Runs.{earlier, last_moment}
use Rattle.disks.proofs.laws.law_moments.Goals as goal

pub returns : goal.returns
returns c = record { earlier = earlier; last = last_moment }
