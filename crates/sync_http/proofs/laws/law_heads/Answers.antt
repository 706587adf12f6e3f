use Rattle.sync_http.proofs.HeadsBack.{request_back, reply_back}
use Rattle.sync_http.proofs.laws.law_heads.Goals as goal

pub returns : goal.returns
returns c = record { request = request_back; reply = reply_back }
