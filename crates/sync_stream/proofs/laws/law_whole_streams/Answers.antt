use Rattle.sync_stream.proofs.WholeStreams.{is_whole, whole_is}
use Rattle.sync_stream.proofs.laws.law_whole_streams.Goals as goal

pub returns : goal.returns
returns c = record { sound = whole_is; complete = is_whole }
