use Rattle.sync_stream.proofs.Unique.{one_reading}
use Rattle.sync_stream.proofs.laws.law_one_reading.Goals as goal

pub returns : goal.returns
returns c = one_reading
