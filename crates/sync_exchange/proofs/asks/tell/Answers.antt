-- The move is what was decided, and so is its end.
use Rattle.std.proofs.Common.{inl, refl}
use Rattle.std.proofs.lemmas.Result.{err_from_is_err_and}
use Rattle.replica_core.proofs.CallsEnds.{undone}
use Rattle.sync_exchange.specs.Faults.{exchange_failure}
use Rattle.sync_exchange.specs.declared.fault.ExchangeFault.TheVariants.{Memory}
use Rattle.sync_exchange.proofs.Cases.{told_err}
use Rattle.sync_exchange.proofs.asks.tell.Goals as goal

pub returns-in_err-moved : goal.returns-in_err-moved
returns-in_err-moved g c =
    let p = err_from_is_err_and c.from_residual.result c.from_residual.ensures.1 in
    rw (p.1, p.2) (undone g.R.Replica.known g.R.Replica.is_open g.R.Replica.crash exchange_failure c.args.replica.now _
    Memory c.requires (λ found h. g.met.R.Replica.settled c.args.replica.now found c.requires h) (inl refl))

pub returns-in_err-move_position : goal.returns-in_err-move_position
returns-in_err-move_position g c =
    let p = err_from_is_err_and c.from_residual-in_err-move_position.result
    c.from_residual-in_err-move_position.ensures.1 in
    rw (p.1, p.2) (told_err g.R.Replica.known g.R.Replica.is_open g.R.Replica.crash c.args.source.now c.args.at.now
    c.in_ok-moved.moved c.args.replica.now c.move_position.new.replica c.in_err-move_position.field-0.0
    c.in_ok-moved.ensures c.in_err-move_position.ensures)
