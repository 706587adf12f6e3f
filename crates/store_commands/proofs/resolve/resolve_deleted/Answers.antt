-- The call that resolves to no content, and its line.
use Rattle.std.proofs.Common.{refl}
use Rattle.std.proofs.lemmas.Result.{err_from_is_err_and}
use Rattle.replica_core.specs.Replica.{state_in}
use Rattle.replica_core.specs.CallsDecide.{resolve_decides}
use Rattle.replica_core.specs.CallsFaults.{resolve_failure}
use Rattle.replica_core.specs.Commands.Effects.{Resolve, Made}
use Rattle.command_lines.specs.Outcomes.{resolve_end}
use Rattle.std.specs.Prelude.{None}
use Rattle.store_commands.proofs.Called.{called, called_broken, failed, resolve_ends}
use Rattle.store_commands.proofs.resolve.resolve_deleted.Goals as goal

pub returns-in_err-made : goal.returns-in_err-made
returns-in_err-made g c =
    let r = g.R.Replica in
    let p = err_from_is_err_and c.from_residual.result c.from_residual.ensures.1 in
    rw (p.1, p.2)
    (failed r.known r.is_open r.crash g.met.R.Replica.settled resolve_failure resolve_end resolve_ends
    (Made c.args.id.now) Resolve (λ fault. refl)
    _ _ _ (resolve_decides c.args.seed c.args.id.now c.args.named.now None
    (state_in (g.R.Replica.known c.args.replica.now))) _ c.requires c.in_err-made.ensures)

pub returns-in_err-print_made : goal.returns-in_err-print_made
returns-in_err-print_made g c =
    let r = g.R.Replica in
    let p = err_from_is_err_and c.from_residual-in_err-print_made.result c.from_residual-in_err-print_made.ensures.1 in
    rw (p.1, p.2)
    (called_broken r.known r.is_open r.crash g.met.R.Replica.settled resolve_failure resolve_end resolve_ends
    (Made c.args.id.now) Resolve (λ fault. refl)
    _ _ (g.K.Sink.known c.args.out.now) (g.K.Sink.known c.print_made.new.out)
    (resolve_decides c.args.seed c.args.id.now c.args.named.now None (state_in (g.R.Replica.known c.args.replica.now)))
    c.in_ok-made.made _ c.requires c.in_ok-made.ensures c.in_err-print_made.ensures)

pub returns : goal.returns
returns g c =
    let r = g.R.Replica in
    called r.known r.is_open r.crash g.met.R.Replica.settled resolve_failure resolve_end resolve_ends
    (Made c.args.id.now) Resolve (λ fault. refl)
    _ _ _ _ (resolve_decides c.args.seed c.args.id.now c.args.named.now None
    (state_in (g.R.Replica.known c.args.replica.now))) c.in_ok-made.made _ c.requires c.in_ok-made.ensures
    c.in_ok-print_made.ensures
