-- A refusal is the decided one.
use Rattle.std.proofs.Common.{subst}
use Rattle.std.proofs.lemmas.Result.{err_from_is_err_and}
use Rattle.replica_state.specs.Held.{Held, meaning}
use Rattle.replica_core.specs.CallsChecks.{IsUndone}
use Rattle.replica_core.specs.CallsDecide.{move_decides}
use Rattle.replica_core.specs.CallsFaults.{take_failure}
use Rattle.replica_core.proofs.CallsStaged.{staged_undone}
use Rattle.replica_core.proofs.calls.receipts.stage_position.Goals as goal

pub returns-in_err-step : goal.returns-in_err-step
returns-in_err-step g c =
    let p = err_from_is_err_and c.from_residual.result c.from_residual.ensures.1 in
    let fault = c.in_err-step.field-0.0 in
    rw (p.1, p.2) (staged_undone g.R.Replica.known g.R.Replica.stages g.R.Replica.crash take_failure c.args.replica.now _ fault
    (λ kept found k h. g.met.R.Replica.staged_leaves c.args.replica.now kept found k h)
    (subst (λ (h : Held). IsUndone take_failure (move_decides c.args.moved.now (meaning h)) fault)
    c.state.ensures c.in_err-step.ensures.undone))
