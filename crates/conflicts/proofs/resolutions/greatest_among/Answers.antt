-- One more counter.
use Rattle.conflicts.proofs.Loops.{greatest_member}
use Rattle.conflicts.proofs.resolutions.greatest_among.Goals as goal

pub loop-member-preserved : goal.loop-member-preserved
loop-member-preserved c =
    greatest_member c.args.own.now c.args.members.now c.loop-member.member-index c.member-item.result c.count.result
    c.loop-member.most c.max-most.result c.loop-member-test.true c.member-item.is c.count.ensures
    c.loop-member.invariant c.max-most.ensures
