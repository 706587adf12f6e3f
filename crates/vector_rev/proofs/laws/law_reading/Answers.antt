-- Both ways.
use Rattle.vector_rev.proofs.RoundTrip.{reads_back, reads_only}
use Rattle.vector_rev.proofs.laws.law_reading.Goals as goal

pub returns : goal.returns
returns c = record { back = reads_back; only = reads_only }
