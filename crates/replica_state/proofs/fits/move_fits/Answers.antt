-- The place is the kept one, or the first one where none is kept.
use Rattle.std.proofs.Common.{Some, None}
use Rattle.std.specs.Option.{unwrap_or}
use Rattle.u1_base.specs.Places.{nowhere}
use Rattle.replica_state.specs.Held.{meaning}
use Rattle.replica_state.proofs.Fitting.{goes, kept_at}
use Rattle.replica_state.proofs.fits.move_fits.Goals as goal

pub returns-in-Some : goal.returns-in-Some
returns-in-Some c =
    let s = c.args.state.now in
    let m = c.args.moved.now in
    goes c.goes_on.result c.in-Some.kept.now (unwrap_or ((meaning s).position m.table m.uid) nowhere) m.at
    (kept_at s m.table m.uid (Some c.in-Some.kept.now) c.positions.result.now c.positions.ensures c.in-Some.ensures)
    c.goes_on.ensures.value

pub returns-in-None : goal.returns-in-None
returns-in-None c =
    let s = c.args.state.now in
    let m = c.args.moved.now in
    goes c.goes_on_from_start.result nowhere (unwrap_or ((meaning s).position m.table m.uid) nowhere) m.at
    (kept_at s m.table m.uid None c.positions.result.now c.positions.ensures c.in-None.ensures)
    c.goes_on_from_start.ensures
