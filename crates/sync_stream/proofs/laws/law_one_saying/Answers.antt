use Rattle.sync_stream.proofs.Came.{one_saying}
use Rattle.sync_stream.proofs.laws.law_one_saying.Goals as goal

pub returns : goal.returns
returns c = one_saying
