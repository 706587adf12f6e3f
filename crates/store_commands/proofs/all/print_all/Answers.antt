-- The first line, and then the others.
use Rattle.std.proofs.Common.{ℕ, Ok, Err, ◌∙◌, ap, length}
use Rattle.translog.specs.Log.{Log}
use Rattle.command_lines.specs.Lines.{line_text}
use Rattle.command_lines.proofs.Putting.{puts_as}
use Rattle.std.proofs.lemmas.Result.{err_from_is_err_and}
use Rattle.replica_core.specs.Commands.Documents.{document_lines}
use Rattle.replica_core.specs.Commands.Effects.{Generation}
use Rattle.replica_state.specs.Held.{lists_of, meaning}
use Rattle.store_commands.proofs.Listed.{head_broke, head_then}
use Rattle.store_commands.proofs.all.print_all.Goals as goal

pub returns-in_err-print_generation : goal.returns-in_err-print_generation
returns-in_err-print_generation g c =
    let k = g.K.Sink.known in
    let p = err_from_is_err_and c.from_residual.result c.from_residual.ensures.1 in
    rw (p.1, p.2)
    (head_broke (Generation (length (lists_of c.args.state.now).log))
    (document_lines (meaning c.args.state.now) c.args.deleted c.args.ids.now)
    (k c.args.out.now) (k c.print_generation.new.out) _
    (puts_as _ _ (k c.args.out.now) (k c.print_generation.new.out) (Err c.in_err-print_generation.field-0.0)
    (ap (λ (n : ℕ). line_text (Generation n)) (c.generation.ensures.value
    ∙ ap (λ (log : Log). length log.entries) c.log.ensures)) c.in_err-print_generation.ensures))

pub returns : goal.returns
returns g c =
    let k = g.K.Sink.known in
    head_then (Generation (length (lists_of c.args.state.now).log))
    (document_lines (meaning c.args.state.now) c.args.deleted c.args.ids.now)
    (k c.args.out.now) (k c.print_generation.new.out) (k c.print_documents.new.out) _
    (puts_as _ _ (k c.args.out.now) (k c.print_generation.new.out) (Ok tt)
    (ap (λ (n : ℕ). line_text (Generation n)) (c.generation.ensures.value
    ∙ ap (λ (log : Log). length log.entries) c.log.ensures)) c.in_ok-print_generation.ensures) c.print_documents.ensures
