-- What the mask says of the block.
use Rattle.std.proofs.Common.{arith}
use Rattle.content.proofs.PlainLanes.{plain_block, plain_to_bit}
use Rattle.content.proofs.scan.plain_end.Goals as goal

pub returns-then-found-ne0-clause-within : goal.returns-then-found-ne0-clause-within
returns-then-found-ne0-clause-within c =
    let found = c.special_lanes-found in
    (plain_to_bit c.args.bytes.now c.loop-at.at found.result (omega arith) found.ensures (omega arith)
    c.loop-at.invariant.plain).0

pub returns-then-found-ne0-clause-plain : goal.returns-then-found-ne0-clause-plain
returns-then-found-ne0-clause-plain c =
    let found = c.special_lanes-found in
    (plain_to_bit c.args.bytes.now c.loop-at.at found.result (omega arith) found.ensures (omega arith)
    c.loop-at.invariant.plain).1

pub loop-at-preserved : goal.loop-at-preserved
loop-at-preserved c =
    let found = c.special_lanes-found in record {
      within = omega arith;
      plain = plain_block c.args.bytes.now c.loop-at.at found.result (omega arith) found.ensures (omega arith)
          c.loop-at.invariant.plain;
    }
