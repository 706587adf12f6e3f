-- The line is printed, and then all is handed on.
use Rattle.std.proofs.lemmas.Result.{err_from_is_err_and}
use Rattle.command_lines.specs.LastLines.{last_line}
use Rattle.store_commands.proofs.Printing.{flush_broke, flushed, last_broke}
use Rattle.store_commands.proofs.top.print_end.Goals as goal

pub returns-in_err-print_last_line : goal.returns-in_err-print_last_line
returns-in_err-print_last_line g c =
    let p = err_from_is_err_and c.from_residual.result c.from_residual.ensures.1 in
    rw (p.1, p.2) (last_broke (last_line c.args.outcome.now) _ _ _ c.in_err-print_last_line.ensures)

pub returns-in_err-flush : goal.returns-in_err-flush
returns-in_err-flush g c =
    let k = g.K.Sink.known in
    let p = err_from_is_err_and c.from_residual-in_err-flush.result c.from_residual-in_err-flush.ensures.1 in
    rw (p.1, p.2)
    (flush_broke (last_line c.args.outcome.now) (k c.args.out.now) (k c.print_last_line.new.out)
    (k c.flush.new.self) c.in_ok-print_last_line.ensures
    c.in_err-flush.ensures.same c.in_err-flush.ensures.cause.later c.in_err-flush.ensures.cause.failed)

pub returns : goal.returns
returns g c =
    let k = g.K.Sink.known in
    flushed (last_line c.args.outcome.now) (k c.args.out.now) (k c.print_last_line.new.out)
    (k c.flush.new.self) c.in_ok-print_last_line.ensures
    c.in_ok-flush.ensures.same c.in_ok-flush.ensures.cause.later c.in_ok-flush.ensures.handed_on
