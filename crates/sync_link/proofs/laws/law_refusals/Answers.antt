use Rattle.sync_link.proofs.Refusals.{refusals}
use Rattle.sync_link.proofs.laws.law_refusals.Goals as goal

pub returns : goal.returns
returns c = refusals
