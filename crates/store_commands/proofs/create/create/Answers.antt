-- A put of the id that was made.
use Rattle.std.proofs.lemmas.Result.{err_from_is_err_and}
use Rattle.store_commands.proofs.Exits.{starved}
use Rattle.store_commands.proofs.create.create.Goals as goal

pub returns-in_err-id : goal.returns-in_err-id
returns-in_err-id g c =
    let r = g.R.Replica in
    let p = err_from_is_err_and c.from_residual.result c.from_residual.ensures.1 in
    rw (p.1, p.2) (starved r.known r.is_open r.crash g.met.R.Replica.settled _ c.args.replica.now _ c.requires)

pub returns : goal.returns
returns g c = rw (c.in_ok-id.ensures, c.state.ensures) at c.put.ensures
