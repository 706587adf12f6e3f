-- The place is the kept one, or the first one where none is kept.
use Rattle.std.proofs.Common.{subst, Some, None}
use Rattle.u1_base.specs.Places.{Place}
use Rattle.replica_core.specs.CallsChecks.{ChecksFrom}
use Rattle.replica_state.proofs.Fitting.{kept_at}
use Rattle.replica_core.proofs.calls.positions.check_move.Goals as goal

pub returns-in-Some : goal.returns-in-Some
returns-in-Some c =
    let s = c.args.state.now in
    let m = c.args.moved.now in
    subst (λ (k : Place). ChecksFrom k m.at c.check_from.result)
    (kept_at s m.table m.uid (Some c.in-Some.kept.now) c.positions.result.now c.positions.ensures c.in-Some.ensures)
    c.check_from.ensures

pub returns-in-None : goal.returns-in-None
returns-in-None c =
    let s = c.args.state.now in
    let m = c.args.moved.now in
    subst (λ (k : Place). ChecksFrom k m.at c.check_from_start.result)
    (kept_at s m.table m.uid None c.positions.result.now c.positions.ensures c.in-None.ensures)
    c.check_from_start.ensures
