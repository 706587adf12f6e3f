use Rattle.key_lanes.proofs.AsciiLanes.{stored_block}
use Rattle.key_lanes.proofs.ascii.store.Goals as goal

pub returns : goal.returns
returns c = stored_block c.args.bytes.now c.args.at c.args.block c.requires.room c.requires.whole
