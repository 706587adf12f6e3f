-- What the masks say of the block.
use Rattle.key_lanes.proofs.BreakLanes.{NoBreak-without_ends, break_lane}
use Rattle.key_lanes.proofs.lines.break_in_block.Goals as goal

pub returns-then-ends-eq0 : goal.returns-then-ends-eq0
returns-then-ends-eq0 c = NoBreak-without_ends c.args.bytes.now c.args.at c.requires c.if-ends-eq0.true

pub returns : goal.returns
returns c = break_lane c.args.bytes.now c.args.at _ c.requires c.first_set.ensures
