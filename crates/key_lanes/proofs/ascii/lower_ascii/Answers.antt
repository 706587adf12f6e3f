-- One block more; and the last one, which was read at first.
use Rattle.std.proofs.Common.{◌-◌, length, arith}
use Rattle.key_lanes.proofs.AsciiLanes.{lowered_more, lowered_whole}
use Rattle.key_lanes.proofs.ascii.lower_ascii.Goals as goal

pub loop-at-preserved : goal.loop-at-preserved
loop-at-preserved c = record {
  within = omega arith;
  lowered = lowered_more c.args.bytes.now c.loop-at.bytes _ c.loop-at.at _ c.loop-at.invariant.lowered
      c.lowered-block.ensures c.store.ensures;
}

pub returns : goal.returns
returns c =
    lowered_whole c.args.bytes.now c.loop-at.bytes _ c.loop-at.at (length c.args.bytes.now - 16) _ (omega arith)
    (omega arith) (omega arith) c.loop-at.invariant.lowered c.lowered-tail.ensures c.store-2.ensures
