-- Without a step nothing happens.
use Rattle.std.proofs.Common.{ap, Option}
use Rattle.std.specs.Option.{option_map}
use Rattle.replica_state.specs.Steps.{step_of}
use Rattle.replica_state.specs.declared.step.Step.{Step}
use Rattle.conflicts.specs.Writing.{Answers}
use Rattle.replica_core.specs.CallsFaults.{commit_failure}
use Rattle.replica_core.proofs.CallsEnds.{answered}
use Rattle.replica_core.proofs.calls.committing.commit_for.Goals as goal

pub returns-in-None : goal.returns-in-None
returns-in-None g c =
    answered g.R.Replica.known g.R.Replica.is_open g.R.Replica.crash commit_failure c.args.replica.now
    (Answers c.args.answer (option_map step_of c.args.step)) c.args.answer
    c.requires.ready (λ found h. g.met.R.Replica.settled c.args.replica.now found c.requires.ready h)
    (ap (λ (o : Option Step). Answers c.args.answer (option_map step_of o)) c.in-None.is)
