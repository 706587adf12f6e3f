-- By the mark of each.
use Rattle.conflicts.proofs.LastMarked.{law}
use Rattle.conflicts.proofs.laws.law_current.Goals as goal

pub returns : goal.returns
returns c = law
