-- The call that puts the content, and its line.
use Rattle.std.proofs.Common.{refl}
use Rattle.std.proofs.lemmas.Result.{err_from_is_err_and}
use Rattle.replica_core.specs.Replica.{state_in}
use Rattle.replica_core.specs.CallsDecide.{put_decides}
use Rattle.replica_core.specs.CallsFaults.{put_failure}
use Rattle.replica_core.specs.Commands.Effects.{Edit, Made}
use Rattle.command_lines.specs.Outcomes.{put_end}
use Rattle.std.specs.Prelude.{option_copied}
use Rattle.store_commands.proofs.Called.{called, called_broken, failed, put_ends}
use Rattle.store_commands.proofs.put.put.Goals as goal

pub returns-in_err-made : goal.returns-in_err-made
returns-in_err-made g c =
    let r = g.R.Replica in
    let p = err_from_is_err_and c.from_residual.result c.from_residual.ensures.1 in
    rw (p.1, p.2)
    (failed r.known r.is_open r.crash g.met.R.Replica.settled put_failure put_end put_ends (Made c.args.id.now) Edit
    (λ fault. refl)
    _ _ _ (put_decides c.args.seed c.args.id.now (option_copied c.args.rev) c.args.content.now
    (state_in (g.R.Replica.known c.args.replica.now))) _ c.requires c.in_err-made.ensures)

pub returns-in_err-print_made : goal.returns-in_err-print_made
returns-in_err-print_made g c =
    let r = g.R.Replica in
    let p = err_from_is_err_and c.from_residual-in_err-print_made.result c.from_residual-in_err-print_made.ensures.1 in
    rw (p.1, p.2)
    (called_broken r.known r.is_open r.crash g.met.R.Replica.settled put_failure put_end put_ends
    (Made c.args.id.now) Edit (λ fault. refl)
    _ _ (g.K.Sink.known c.args.out.now) (g.K.Sink.known c.print_made.new.out)
    (put_decides c.args.seed c.args.id.now (option_copied c.args.rev) c.args.content.now
    (state_in (g.R.Replica.known c.args.replica.now))) c.in_ok-made.made _ c.requires c.in_ok-made.ensures
    c.in_err-print_made.ensures)

pub returns : goal.returns
returns g c =
    let r = g.R.Replica in
    called r.known r.is_open r.crash g.met.R.Replica.settled put_failure put_end put_ends (Made c.args.id.now) Edit
    (λ fault. refl)
    _ _ _ _ (put_decides c.args.seed c.args.id.now (option_copied c.args.rev) c.args.content.now
    (state_in (g.R.Replica.known c.args.replica.now))) c.in_ok-made.made _ c.requires c.in_ok-made.ensures
    c.in_ok-print_made.ensures
