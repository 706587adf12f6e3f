-- The expressions are read, then the index is created, and its line is printed.
use Rattle.std.proofs.Common.{Ok, refl}
use Rattle.std.proofs.lemmas.Result.{err_from_is_err_and}
use Rattle.replica_core.specs.Replica.{state_in}
use Rattle.replica_core.specs.CallsDecide.{create_decides}
use Rattle.replica_core.specs.CallsFaults.{index_failure}
use Rattle.replica_core.specs.Commands.Effects.{IndexMade, OfIndex}
use Rattle.command_lines.specs.Outcomes.{index_end}
use Rattle.store_commands.proofs.Called.{called, called_broken, failed, index_ends}
use Rattle.store_commands.proofs.ReadExprs.{not_read}
use Rattle.store_commands.proofs.index_create.index_create.Goals as goal

pub returns-in_err-exprs : goal.returns-in_err-exprs
returns-in_err-exprs g c =
    let r = g.R.Replica in
    let p = err_from_is_err_and c.from_residual.result c.from_residual.ensures.1 in
    rw (p.1, p.2) (not_read r.known r.is_open r.crash g.met.R.Replica.settled c.args.texts.now _ c.args.replica.now
    (g.K.Sink.known c.args.out.now) c.requires.open _ c.in_err-exprs.ensures)

pub returns-in_err-create_index : goal.returns-in_err-create_index
returns-in_err-create_index g c =
    let r = g.R.Replica in
    let p = err_from_is_err_and c.from_residual-in_err-create_index.result
    c.from_residual-in_err-create_index.ensures.1 in
    rw (p.1, p.2) (
      Ok c.in_ok-exprs.exprs.texts,
      c.in_ok-exprs.ensures,
      failed r.known r.is_open r.crash g.met.R.Replica.settled index_failure index_end index_ends
          (λ done. IndexMade c.args.name.now) OfIndex (λ fault. refl)
          _ _ _ (create_decides c.args.name.now c.in_ok-exprs.exprs.texts (state_in (r.known c.args.replica.now))) _
          c.requires.open c.in_err-create_index.ensures,
    )

pub returns-in_err-print_index_made : goal.returns-in_err-print_index_made
returns-in_err-print_index_made g c =
    let r = g.R.Replica in
    let p = err_from_is_err_and c.from_residual-in_err-print_index_made.result
    c.from_residual-in_err-print_index_made.ensures.1 in
    rw (p.1, p.2) (
      Ok c.in_ok-exprs.exprs.texts,
      c.in_ok-exprs.ensures,
      called_broken r.known r.is_open r.crash g.met.R.Replica.settled index_failure index_end index_ends
          (λ done. IndexMade c.args.name.now) OfIndex (λ fault. refl)
          _ _ (g.K.Sink.known c.args.out.now) (g.K.Sink.known c.print_index_made.new.out)
          (create_decides c.args.name.now c.in_ok-exprs.exprs.texts (state_in (r.known c.args.replica.now))) tt _
          c.requires.open c.in_ok-create_index.ensures c.in_err-print_index_made.ensures,
    )

pub returns : goal.returns
returns g c =
    let r = g.R.Replica in (
      Ok c.in_ok-exprs.exprs.texts,
      c.in_ok-exprs.ensures,
      called r.known r.is_open r.crash g.met.R.Replica.settled index_failure index_end index_ends
          (λ done. IndexMade c.args.name.now) OfIndex (λ fault. refl)
          _ _ _ _ (create_decides c.args.name.now c.in_ok-exprs.exprs.texts (state_in (r.known c.args.replica.now))) tt
          _ c.requires.open c.in_ok-create_index.ensures c.in_ok-print_index_made.ensures,
    )
