-- Each turn puts one entry more, below those that were put.
use Rattle.std.proofs.Common.{◌-◌, arith}
use Rattle.vector_rev.proofs.Putting.{walk_sorted, walk_above, walk_more}
use Rattle.vector_rev.proofs.places.put_each.Goals as goal

pub put_greater-requires-clause-order : goal.put_greater-requires-clause-order
put_greater-requires-clause-order c =
    walk_sorted c.args.others.now c.args.entries.now.items c.loop-left.entries.items c.loop-left.end c.loop-left.left
    c.requires.order c.loop-left.invariant

pub put_greater-requires-clause-above : goal.put_greater-requires-clause-above
put_greater-requires-clause-above c =
    walk_above c.args.others.now c.args.entries.now.items c.loop-left.entries.items c.loop-left.end c.loop-left.left
    (c.loop-left.left - 1) c.index-others-left.result c.uid.result.now
    c.requires.others (omega (arith, c.loop-left-test.true)) c.index-others-left.is c.uid.ensures.value
    c.loop-left.invariant

pub loop-left-preserved : goal.loop-left-preserved
loop-left-preserved c =
    walk_more c.args.others.now c.args.entries.now.items c.loop-left.entries.items c.put_greater.new.entries.items
    c.loop-left.end c.in_ok-end.end c.loop-left.left
    (c.loop-left.left - 1) c.index-others-left.result c.uid.result.now _
    c.requires.others (omega (arith, c.loop-left-test.true)) c.index-others-left.is c.uid.ensures.value
    c.counter.ensures c.in_ok-end.ensures.entries c.in_ok-end.ensures.place c.loop-left.invariant
