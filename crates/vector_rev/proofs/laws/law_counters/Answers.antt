-- Entries in order are determined by what they count.
use Rattle.vector_rev.proofs.ClockLaws.{same_clock}
use Rattle.vector_rev.proofs.laws.law_counters.Goals as goal

pub returns : goal.returns
returns c = same_clock
