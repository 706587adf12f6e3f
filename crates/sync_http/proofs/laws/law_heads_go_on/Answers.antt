use Rattle.sync_http.proofs.MoreBytes.{one_reply_heard, one_request_heard, reply_on, request_on}
use Rattle.sync_http.proofs.laws.law_heads_go_on.Goals as goal

pub returns : goal.returns
returns c = record {
  request = request_on;
  reply = reply_on;
  one_request = one_request_heard;
  one_reply = one_reply_heard;
}
