-- What was passed is equal, and behind it stands a difference or an end.
use Rattle.std.proofs.Common.{arith}
use Rattle.key_lanes.proofs.Fronts.{common_prefix_is}
use Rattle.key_lanes.proofs.order.prefix_by_bytes.Goals as goal

pub returns-else-a-at-clause-value : goal.returns-else-a-at-clause-value
returns-else-a-at-clause-value c =
    common_prefix_is c.args.a.now c.args.b.now _ (omega arith) (omega arith) c.loop-at.invariant.same
    (λ m n. c.if-a-at.false)

pub returns-after-loop-at-clause-value : goal.returns-after-loop-at-clause-value
returns-after-loop-at-clause-value c =
    common_prefix_is c.args.a.now c.args.b.now _ (omega arith) (omega arith) c.loop-at.invariant.same
    (λ m n. absurd (omega arith))
