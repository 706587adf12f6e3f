use Rattle.disks.proofs.Runs.{settled_images}
use Rattle.disks.proofs.laws.law_settled.Goals as goal

pub returns : goal.returns
returns c devices settled images i = settled_images devices.files settled images i
