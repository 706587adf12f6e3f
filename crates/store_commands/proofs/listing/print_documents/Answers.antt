-- Each line behind those before it.
use Rattle.std.proofs.Common.{Ok, Err, arith}
use Rattle.std.proofs.lemmas.Result.{err_from_is_err_and}
use Rattle.conflicts.specs.State.{Text}
use Rattle.replica_core.specs.Commands.Documents.{document_line}
use Rattle.replica_state.specs.Held.{meaning}
use Rattle.store_commands.specs.inner.Shown.{line_if}
use Rattle.store_commands.proofs.Listed.{lines_if}
use Rattle.command_lines.proofs.Listing.{all_of, none_of}
use Rattle.command_lines.proofs.Putting.{puts_as}
use Rattle.store_commands.proofs.Placed.{broke_there, item_there, more_there}
use Rattle.store_commands.proofs.listing.print_documents.Goals as goal

pub loop-id-init : goal.loop-id-init
loop-id-init g c = none_of (λ (id : Text). line_if (document_line (meaning c.args.state.now) c.args.deleted id))
    c.args.ids.now (g.K.Sink.known c.args.out.now)

pub loop-id-preserved : goal.loop-id-preserved
loop-id-preserved g c =
    let k = g.K.Sink.known in
    more_there (λ (id : Text). line_if (document_line (meaning c.args.state.now) c.args.deleted id)) c.args.ids.now
    c.loop-id.id-index c.id-item.result
    (k c.args.out.now) (k c.loop-id.out) (k c.print_listed.new.out)
    (item_there c.args.ids.now c.loop-id.id-index c.id-item.result (omega (arith, c.loop-id-test.true)) c.id-item.is)
    c.loop-id.invariant c.in_ok-print_listed.ensures

pub returns-in_err-print_listed : goal.returns-in_err-print_listed
returns-in_err-print_listed g c =
    let k = g.K.Sink.known in
    let p = err_from_is_err_and c.from_residual.result c.from_residual.ensures.1 in
    rw (p.1, p.2)
    (puts_as _ _ (k c.args.out.now) (k c.print_listed.new.out) (Err c.in_err-print_listed.field-0.0)
    (lines_if (document_line (meaning c.args.state.now) c.args.deleted) c.args.ids.now)
    (broke_there (λ (id : Text). line_if (document_line (meaning c.args.state.now) c.args.deleted id)) c.args.ids.now
    c.loop-id.id-index c.id-item.result
    (k c.args.out.now) (k c.loop-id.out) (k c.print_listed.new.out) c.in_err-print_listed.field-0.0
    (item_there c.args.ids.now c.loop-id.id-index c.id-item.result (omega (arith, c.loop-id-test.true)) c.id-item.is)
    c.loop-id.invariant c.in_err-print_listed.ensures))

pub returns : goal.returns
returns g c =
    let k = g.K.Sink.known in
    puts_as _ _ (k c.args.out.now) (k c.loop-id.out) (Ok tt)
    (lines_if (document_line (meaning c.args.state.now) c.args.deleted) c.args.ids.now)
    (all_of (λ (id : Text). line_if (document_line (meaning c.args.state.now) c.args.deleted id)) c.args.ids.now
    c.loop-id.id-index (k c.args.out.now) (k c.loop-id.out) (omega (arith, c.loop-id-test.false)) c.loop-id.invariant)
