-- None waits where all were applied.
use Rattle.std.proofs.Common.{◌∙◌, ap}
use Rattle.replica_state.specs.Held.{meaning}
use Rattle.replica_state.specs.Waiting.{with_accepted}
use Rattle.replica_state.proofs.settling.settle_many.Goals as goal

pub returns-clause-accepted : goal.returns-clause-accepted
returns-clause-accepted c =
    ap (with_accepted (meaning c.settle.new.state)) c.in_ok-settle.ensures.none ∙ c.in_ok-settle.ensures.accepted
