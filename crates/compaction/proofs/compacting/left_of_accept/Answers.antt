use Rattle.replica_state.specs.Held.{meaning}
use Rattle.compaction.specs.inner.Noted.{later_of}
use Rattle.compaction.proofs.Noting.{gone_noted, accept_noted}
use Rattle.compaction.proofs.compacting.left_of_accept.Goals as goal

pub returns-then-not-is_left-clause-noted : goal.returns-then-not-is_left-clause-noted
returns-then-not-is_left-clause-noted c =
    gone_noted (meaning c.args.state.now)
    (later_of c.args.noted.now) _ c.args.doc c.args.accept c.args.trans c.args.moved c.is_left-is_left.result
    c.is_left-is_left.ensures c.if-not-is_left.true c.in_ok-maybe_move.ensures

pub returns-clause-noted : goal.returns-clause-noted
returns-clause-noted c =
    accept_noted (meaning c.args.state.now)
    (later_of c.args.noted.now) _ c.args.doc c.args.accept c.args.trans c.args.moved c.is_left-is_left.result _
    c.is_left-is_left.ensures c.if-not-is_left.false c.in_ok-maybe_move.ensures c.in_ok-accept.ensures
