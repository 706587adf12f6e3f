-- The body was spelled, and then the state got the room for its parts of the step.
use Rattle.replica_volume.proofs.Committed.{as_before_both}
use Rattle.replica_volume.proofs.replica.Volume.make_ready.Goals as goal

pub returns-in-Ok-clause-same : goal.returns-in-Ok-clause-same
returns-in-Ok-clause-same g c =
    as_before_both c.args.self.now c.spell.new.self c.prepare.new.self c.spell.ensures.same c.prepare.ensures.same
