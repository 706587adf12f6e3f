use Rattle.sync_stream.specs.Serving.{AnyStop}
use Rattle.sync_link.proofs.Refusals.{in_front, lost}
use Rattle.sync_link.proofs.laws.law_lost_replies.Goals as goal

pub returns : goal.returns
returns c = record { lost = lost AnyStop; cut = in_front }
