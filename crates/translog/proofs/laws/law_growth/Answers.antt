-- The entries that were there stay at their places.
use Rattle.translog.proofs.Growth.{FitsLog-append}
use Rattle.translog.proofs.laws.law_growth.Goals as goal

pub returns : goal.returns
returns c = FitsLog-append
