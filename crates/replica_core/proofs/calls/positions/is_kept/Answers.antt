-- The place is the kept one, or the first one where none is kept.
use Rattle.std.proofs.Common.{◌∙◌, ap, Some, None}
use Rattle.u1_base.specs.Places.{Place, same_place}
use Rattle.replica_state.proofs.Fitting.{kept_at}
use Rattle.replica_core.proofs.calls.positions.is_kept.Goals as goal

pub returns-in-Some : goal.returns-in-Some
returns-in-Some c =
    let s = c.args.state.now in
    let m = c.args.moved.now in
    c.is_at.ensures ∙ ap (λ (k : Place). same_place m.at k)
    (kept_at s m.table m.uid (Some c.in-Some.kept.now) c.positions.result.now c.positions.ensures c.in-Some.ensures)

pub returns-in-None : goal.returns-in-None
returns-in-None c =
    let s = c.args.state.now in
    let m = c.args.moved.now in
    c.is_at_start.ensures ∙ ap (λ (k : Place). same_place m.at k)
    (kept_at s m.table m.uid None c.positions.result.now c.positions.ensures c.in-None.ensures)
