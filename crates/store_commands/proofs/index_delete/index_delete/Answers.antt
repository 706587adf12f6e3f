-- The call that deletes the index, and its line.
use Rattle.std.proofs.Common.{refl}
use Rattle.std.proofs.lemmas.Result.{err_from_is_err_and}
use Rattle.replica_core.specs.Replica.{state_in}
use Rattle.replica_core.specs.CallsDecide.{delete_index_decides}
use Rattle.replica_core.specs.CallsFaults.{index_failure}
use Rattle.replica_core.specs.Commands.Effects.{OfIndex, IndexDeleted}
use Rattle.command_lines.specs.Outcomes.{index_end}
use Rattle.store_commands.proofs.Called.{called, called_broken, failed, index_ends}
use Rattle.store_commands.proofs.index_delete.index_delete.Goals as goal

pub returns-in_err-delete_index : goal.returns-in_err-delete_index
returns-in_err-delete_index g c =
    let r = g.R.Replica in
    let p = err_from_is_err_and c.from_residual.result c.from_residual.ensures.1 in
    rw (p.1, p.2)
    (failed r.known r.is_open r.crash g.met.R.Replica.settled index_failure index_end index_ends
    (λ done. IndexDeleted c.args.name.now) OfIndex (λ fault. refl)
    _ _ _ (delete_index_decides c.args.name.now (state_in (g.R.Replica.known c.args.replica.now))) _ c.requires
    c.in_err-delete_index.ensures)

pub returns-in_err-print_index_deleted : goal.returns-in_err-print_index_deleted
returns-in_err-print_index_deleted g c =
    let r = g.R.Replica in
    let p = err_from_is_err_and c.from_residual-in_err-print_index_deleted.result
    c.from_residual-in_err-print_index_deleted.ensures.1 in
    rw (p.1, p.2)
    (called_broken r.known r.is_open r.crash g.met.R.Replica.settled index_failure index_end index_ends
    (λ done. IndexDeleted c.args.name.now) OfIndex (λ fault. refl)
    _ _ (g.K.Sink.known c.args.out.now) (g.K.Sink.known c.print_index_deleted.new.out)
    (delete_index_decides c.args.name.now (state_in (g.R.Replica.known c.args.replica.now))) tt _ c.requires
    c.in_ok-delete_index.ensures c.in_err-print_index_deleted.ensures)

pub returns : goal.returns
returns g c =
    let r = g.R.Replica in
    called r.known r.is_open r.crash g.met.R.Replica.settled index_failure index_end index_ends
    (λ done. IndexDeleted c.args.name.now) OfIndex (λ fault. refl)
    _ _ _ _ (delete_index_decides c.args.name.now (state_in (g.R.Replica.known c.args.replica.now))) tt _ c.requires
    c.in_ok-delete_index.ensures c.in_ok-print_index_deleted.ensures
