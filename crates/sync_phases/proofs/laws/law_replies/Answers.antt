use Rattle.sync_phases.proofs.Hearing.{heard}
use Rattle.sync_phases.proofs.laws.law_replies.Goals as goal

pub returns : goal.returns
returns c = heard
