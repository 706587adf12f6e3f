-- Where memory runs out nothing is printed.
use Rattle.std.proofs.lemmas.Result.{err_from_is_err_and}
use Rattle.command_lines.proofs.Putting.{puts_none}
use Rattle.command_lines.proofs.documents.print_document.Goals as goal

pub returns-in_err-rev : goal.returns-in_err-rev
returns-in_err-rev g c =
    let p = err_from_is_err_and c.from_residual.result c.from_residual.ensures.1
    in rw (p.1, p.2) (puts_none _ (g.K.Sink.known c.args.out.now))
