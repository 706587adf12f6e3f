-- Lane by lane: the 256 bytes are tried.
use Rattle.std.proofs.Common.{refl}
use Rattle.key_lanes.proofs.AsciiLanes.{lowered_is}
use Rattle.key_lanes.proofs.ascii.lowered.Goals as goal

pub returns : goal.returns
returns c = lowered_is _ c.args.bytes.now c.args.at c.requires c.type_inv.bytes refl
