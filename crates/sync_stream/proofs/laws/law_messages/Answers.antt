use Rattle.sync_stream.proofs.Messages.{reply_back, request_back, status_heard}
use Rattle.sync_stream.proofs.laws.law_messages.Goals as goal

pub returns : goal.returns
returns c = record { request = request_back; reply = reply_back; status = status_heard }
