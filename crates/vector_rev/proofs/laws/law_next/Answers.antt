-- One counter is greater and none is smaller.
use Rattle.vector_rev.proofs.ClockLaws.{IsNext-newer, IsNext-room}
use Rattle.vector_rev.proofs.laws.law_next.Goals as goal

pub returns : goal.returns
returns c x z own next = record { newer = IsNext-newer x z own next; room = IsNext-room x z own next }
