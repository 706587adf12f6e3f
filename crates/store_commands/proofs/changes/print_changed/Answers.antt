-- The first line, and then the others.
use Rattle.std.proofs.Common.{List, ap}
use Rattle.translog.specs.declared.entry.Change.{Change}
use Rattle.command_lines.specs.Lines.{lines_text}
use Rattle.command_lines.proofs.Putting.{puts_as}
use Rattle.std.proofs.lemmas.Result.{err_from_is_err_and}
use Rattle.std.specs.Prelude.{map}
use Rattle.replica_core.specs.Commands.Effects.{Changed, Now}
use Rattle.store_commands.proofs.Listed.{head_broke, head_then}
use Rattle.store_commands.proofs.changes.print_changed.Goals as goal

pub returns-in_err-print_now : goal.returns-in_err-print_now
returns-in_err-print_now g c =
    let k = g.K.Sink.known in
    let p = err_from_is_err_and c.from_residual.result c.from_residual.ensures.1 in
    rw (p.1, p.2)
    (head_broke (Now c.args.changed.now.at) (map Changed c.args.changed.now.changes)
    (k c.args.out.now) (k c.print_now.new.out) _ c.in_err-print_now.ensures)

pub returns : goal.returns
returns g c =
    let k = g.K.Sink.known in
    head_then (Now c.args.changed.now.at) (map Changed c.args.changed.now.changes)
    (k c.args.out.now) (k c.print_now.new.out) (k c.print_changes.new.out) _ c.in_ok-print_now.ensures
    (puts_as _ _ (k c.print_now.new.out) (k c.print_changes.new.out) _
    (ap (λ (xs : List Change). lines_text (map Changed xs)) c.as_slice.ensures) c.print_changes.ensures)
