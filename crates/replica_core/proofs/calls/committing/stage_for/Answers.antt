-- Without a step nothing happens.
use Rattle.std.proofs.Common.{ap, Option}
use Rattle.std.specs.Option.{option_map}
use Rattle.conflicts.specs.Writing.{Answers}
use Rattle.replica_state.specs.Steps.{step_of}
use Rattle.replica_state.specs.declared.step.Step.{Step}
use Rattle.replica_core.specs.CallsFaults.{commit_failure}
use Rattle.replica_core.proofs.CallsStaged.{staged_answered}
use Rattle.replica_core.proofs.calls.committing.stage_for.Goals as goal

pub returns-in-None : goal.returns-in-None
returns-in-None g c =
    staged_answered g.R.Replica.known g.R.Replica.stages g.R.Replica.crash commit_failure c.args.replica.now
    (Answers c.args.answer (option_map step_of c.args.step)) c.args.answer
    (λ kept found k h. g.met.R.Replica.staged_leaves c.args.replica.now kept found k h)
    (ap (λ (o : Option Step). Answers c.args.answer (option_map step_of o)) c.in-None.is)
