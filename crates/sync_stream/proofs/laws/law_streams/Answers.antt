use Rattle.sync_stream.proofs.StreamBack.{stream_back}
use Rattle.sync_stream.proofs.laws.law_streams.Goals as goal

pub returns : goal.returns
returns c = stream_back
