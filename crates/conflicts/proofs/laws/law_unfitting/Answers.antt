-- By whether a member is newer.
use Rattle.conflicts.proofs.OverCurrent.{law}
use Rattle.conflicts.proofs.laws.law_unfitting.Goals as goal

pub returns : goal.returns
returns c = law
