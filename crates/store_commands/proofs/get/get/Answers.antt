-- The line of the document, or that there is none.
use Rattle.std.proofs.Common.{[], ◌∷◌, Ok, Err, ap, sym}
use Rattle.replica_state.specs.Held.{Held, meaning}
use Rattle.store_commands.specs.Deeds.{over_replica}
use Rattle.replica_core.specs.Commands.Documents.{document_line, get_effect, line_or_none}
use Rattle.std.proofs.lemmas.Result.{err_from_is_err_and}
use Rattle.store_commands.proofs.Showing.{broken, printed, one_line}
use Rattle.store_commands.proofs.get.get.Goals as goal

pub returns-in_err-print_found : goal.returns-in_err-print_found
returns-in_err-print_found g c =
    let r = g.R.Replica in
    let k = g.K.Sink.known in
    let line = line_or_none (document_line (meaning c.state.result.now) c.args.deleted c.args.id.now) in
    let p = err_from_is_err_and c.from_residual.result c.from_residual.ensures.1 in
    rw (p.1, p.2)
    (broken r.known r.is_open r.crash g.met.R.Replica.settled c.args.replica.now c.requires _ (line ∷ [])
    (ap (λ (h : Held). over_replica (get_effect (meaning h) c.args.id.now c.args.deleted)) (sym c.state.ensures))
    (k c.args.out.now) (k c.print_found.new.out) c.in_err-print_found.field-0.0
    (one_line line (k c.args.out.now) (k c.print_found.new.out)
    (Err c.in_err-print_found.field-0.0) c.in_err-print_found.ensures))

pub returns : goal.returns
returns g c =
    let r = g.R.Replica in
    let k = g.K.Sink.known in
    let line = line_or_none (document_line (meaning c.state.result.now) c.args.deleted c.args.id.now) in
    printed r.known r.is_open r.crash g.met.R.Replica.settled c.args.replica.now c.requires _ (line ∷ [])
    (ap (λ (h : Held). over_replica (get_effect (meaning h) c.args.id.now c.args.deleted)) (sym c.state.ensures))
    (k c.args.out.now) (k c.print_found.new.out)
    (one_line line (k c.args.out.now) (k c.print_found.new.out) (Ok tt) c.in_ok-print_found.ensures)
