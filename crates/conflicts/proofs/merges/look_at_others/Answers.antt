-- Each step finds nothing, or ends the walk.
use Rattle.std.proofs.Common.{ap, arith, length}
use Rattle.conflicts.proofs.Walks.{walk_done}
use Rattle.conflicts.proofs.merges.look_at_others.Goals as goal

pub returns : goal.returns
returns c =
    walk_done c.args.set.now c.args.incoming.now c.args.own.now c.loop-place.place c.loop-place.merging
    (omega (arith, ap length c.members-place-end.ensures)) c.loop-place.invariant
