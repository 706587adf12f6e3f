use Rattle.replica_state.specs.Held.{meaning}
use Rattle.compaction.proofs.compacting.left_of.Goals as goal

pub returns-in-Position-clause-left : goal.returns-in-Position-clause-left
returns-in-Position-clause-left c = rw c.in-Position.is (c.left_of_move.ensures.left (meaning c.args.state.now))

pub returns-in-Position-clause-noted : goal.returns-in-Position-clause-noted
returns-in-Position-clause-noted c = rw c.in-Position.is (c.left_of_move.ensures.noted (meaning c.args.state.now))
