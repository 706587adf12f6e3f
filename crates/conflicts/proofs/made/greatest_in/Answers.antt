-- One more counter.
use Rattle.conflicts.proofs.Loops.{greatest_next}
use Rattle.conflicts.proofs.made.greatest_in.Goals as goal

pub loop-clock-preserved : goal.loop-clock-preserved
loop-clock-preserved c =
    greatest_next c.args.own.now c.args.clocks.now c.loop-clock.clock-index c.clock-item.result c.count.result
    c.loop-clock.most c.max-most.result c.loop-clock-test.true c.clock-item.is c.count.ensures c.loop-clock.invariant
    c.max-most.ensures
