-- The step is the acceptance as the next entry.
use Rattle.std.proofs.Common.{◌∙◌, ap, ap₂, inl, refl, subst, Some, None}
use Rattle.std.proofs.lemmas.Result.{err_from_is_err_and}
use Rattle.vector_rev.specs.Clock.{Clock}
use Rattle.conflicts.specs.State.{Step}
use Rattle.replica_state.specs.Held.{Held, meaning}
use Rattle.replica_core.specs.Calls.{IsDone}
use Rattle.conflicts.specs.Writing.{accept_next}
use Rattle.replica_core.specs.CallsFaults.{commit_failure}
use Rattle.replica_core.specs.declared.fault.CommitFault.{CommitFault}
use Rattle.replica_core.specs.declared.fault.CommitFault.TheVariants.{Memory}
use Rattle.replica_core.proofs.CallsEnds.{answer_with, undone}
use Rattle.replica_core.proofs.calls.accepting.accept_made.Goals as goal

pub returns-in_err-rev : goal.returns-in_err-rev
returns-in_err-rev g c =
    let p = err_from_is_err_and c.from_residual.result c.from_residual.ensures.1 in
    rw (p.1, p.2) (undone g.R.Replica.known g.R.Replica.is_open g.R.Replica.crash commit_failure
    c.args.replica.now _ Memory
    c.requires.ready (λ found h. g.met.R.Replica.settled c.args.replica.now found c.requires.ready h) (inl refl))

pub returns-in_err-step : goal.returns-in_err-step
returns-in_err-step g c =
    let p = err_from_is_err_and c.from_residual-in_err-step.result c.from_residual-in_err-step.ensures.1 in
    rw (p.1, p.2) (undone g.R.Replica.known g.R.Replica.is_open g.R.Replica.crash commit_failure
    c.args.replica.now _ Memory
    c.requires.ready (λ found h. g.met.R.Replica.settled c.args.replica.now found c.requires.ready h) (inl refl))

pub returns : goal.returns
returns g c =
    subst (λ d. IsDone g.R.Replica.known g.R.Replica.is_open g.R.Replica.crash commit_failure d c.args.replica.now
    c.commit_for.new.replica c.commit_for.result)
    (ap₂ (λ (r : Clock) (x : Step). answer_with {A = Clock} {F = CommitFault} r (Some x)) c.in_ok-rev.ensures
    (c.in_ok-step.ensures ∙ ap (λ (h : Held). accept_next c.args.seed (meaning h) c.args.id.now c.args.accept None)
    c.state.ensures))
    c.commit_for.ensures
