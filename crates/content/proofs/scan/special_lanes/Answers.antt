-- Lane by lane.
use Rattle.std.proofs.Common.{arith}
use Rattle.std.proofs.lemmas.Simd.{length-chunk}
use Rattle.content.proofs.PlainLanes.{special_mask}
use Rattle.content.proofs.scan.special_lanes.Goals as goal

pub returns : goal.returns
returns c = special_mask _ (length-chunk c.args.at 16 c.args.bytes.now (omega arith))
