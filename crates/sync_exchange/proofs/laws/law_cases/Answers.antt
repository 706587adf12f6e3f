-- The cases.
use Rattle.sync_exchange.proofs.Cases.{cases}
use Rattle.sync_exchange.proofs.laws.law_cases.Goals as goal

pub returns : goal.returns
returns c = cases
