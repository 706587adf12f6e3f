-- What was decided on the state is decided on the replica.
use Rattle.std.proofs.Common.{◌≡◌, subst}
use Rattle.std.proofs.lemmas.Result.{err_from_is_err_and}
use Rattle.std.specs.Option.{option_map}
use Rattle.conflicts.specs.Writing.{Answers}
use Rattle.replica_state.specs.Held.{Held, meaning}
use Rattle.replica_state.specs.Steps.{step_of}
use Rattle.replica_core.specs.CallsChecks.{IsUndone}
use Rattle.replica_core.specs.CallsDecide.{take_decides}
use Rattle.replica_core.specs.CallsFaults.{take_failed, take_failure}
use Rattle.replica_core.proofs.CallsStaged.{staged_err, staged_ok, staged_undone}
use Rattle.replica_core.proofs.CallsTaken.{take_fails}
use Rattle.replica_core.proofs.calls.receipts.stage_if_newer.Goals as goal

pub returns-in_err-taken : goal.returns-in_err-taken
returns-in_err-taken g c =
    let p = err_from_is_err_and c.from_residual.result c.from_residual.ensures.1 in
    let fault = c.in_err-taken.field-0.0 in
    rw (p.1, p.2) (staged_undone g.R.Replica.known g.R.Replica.stages g.R.Replica.crash take_failure c.args.replica.now _ fault
    (λ kept found k h. g.met.R.Replica.staged_leaves c.args.replica.now kept found k h)
    (subst (λ (h : Held). IsUndone take_failure (take_decides c.args.seed c.args.id.now c.args.incoming.now c.args.save c.args.moved.now (meaning h)) fault)
    c.state.ensures c.in_err-taken.ensures.undone))

pub returns-in_err-stage_for : goal.returns-in_err-stage_for
returns-in_err-stage_for g c =
    let p = err_from_is_err_and c.from_residual-in_err-stage_for.result c.from_residual-in_err-stage_for.ensures.1 in
    let fault = c.in_err-stage_for.field-0.0 in
    rw (p.1, p.2) (staged_err g.R.Replica.known g.R.Replica.stages g.R.Replica.crash take_failure c.args.replica.now
    c.stage_for.new.replica _ c.in_ok-taken.taken (option_map step_of c.in_ok-taken.step) fault (take_failed fault)
    (subst (λ (h : Held). take_decides c.args.seed c.args.id.now c.args.incoming.now c.args.save c.args.moved.now (meaning h)
    ≡ Answers c.in_ok-taken.taken (option_map step_of c.in_ok-taken.step)) c.state.ensures
    c.in_ok-taken.ensures.decided)
    (take_fails fault) c.in_err-stage_for.ensures)

pub returns : goal.returns
returns g c =
    staged_ok g.R.Replica.known g.R.Replica.stages g.R.Replica.crash take_failure c.args.replica.now c.stage_for.new.replica
    _ c.in_ok-taken.taken c.in_ok-stage_for.field-0 (option_map step_of c.in_ok-taken.step)
    (subst (λ (h : Held). take_decides c.args.seed c.args.id.now c.args.incoming.now c.args.save c.args.moved.now (meaning h)
    ≡ Answers c.in_ok-taken.taken (option_map step_of c.in_ok-taken.step)) c.state.ensures
    c.in_ok-taken.ensures.decided)
    c.in_ok-stage_for.ensures
