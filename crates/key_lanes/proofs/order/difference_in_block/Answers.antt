-- What the mask says of the two blocks.
use Rattle.std.proofs.Common.{arith}
use Rattle.key_lanes.proofs.DifferenceLanes.{difference_lane}
use Rattle.key_lanes.proofs.order.difference_in_block.Goals as goal

pub returns : goal.returns
returns c = difference_lane 16 c.args.a.now c.args.b.now c.args.at _
    (omega arith) c.requires.in_a c.requires.in_b c.first_set.ensures
