-- What the mask says of the block.
use Rattle.key_lanes.proofs.AsciiLanes.{ascii_mask}
use Rattle.key_lanes.proofs.ascii.is_ascii_block.Goals as goal

pub returns : goal.returns
returns c = ascii_mask c.args.bytes.now c.args.at c.requires
