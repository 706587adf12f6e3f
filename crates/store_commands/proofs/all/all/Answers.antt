-- There is no room for the ids, or the lines are printed.
use Rattle.std.proofs.Common.{◌∙◌, ◌∷◌, List, ap, sym, length}
use Rattle.conflicts.specs.State.{Text}
use Rattle.replica_state.specs.Held.{Held, lists_of, meaning}
use Rattle.replica_core.specs.Commands.Effects.{prints}
use Rattle.store_commands.specs.Deeds.{over_replica}
use Rattle.replica_core.specs.Commands.Documents.{all_effect, document_lines}
use Rattle.replica_core.specs.Commands.Effects.{Generation}
use Rattle.std.proofs.lemmas.Result.{err_from_is_err_and}
use Rattle.store_commands.proofs.Exits.{starved}
use Rattle.store_commands.proofs.Showing.{broken, printed}
use Rattle.store_commands.proofs.all.all.Goals as goal

pub returns-in_err-ids : goal.returns-in_err-ids
returns-in_err-ids g c =
    let r = g.R.Replica in
    let p = err_from_is_err_and c.from_residual.result c.from_residual.ensures.1 in
    rw (p.1, p.2) (starved r.known r.is_open r.crash g.met.R.Replica.settled _ c.args.replica.now _ c.requires)

pub returns-in_err-print_all : goal.returns-in_err-print_all
returns-in_err-print_all g c =
    let r = g.R.Replica in
    let k = g.K.Sink.known in
    let st = c.state-state.result.now in
    let p = err_from_is_err_and c.from_residual-in_err-print_all.result c.from_residual-in_err-print_all.ensures.1 in
    rw (p.1, p.2)
    (broken r.known r.is_open r.crash g.met.R.Replica.settled c.args.replica.now c.requires _
    (Generation (length (lists_of st).log) ∷ document_lines (meaning st) c.args.deleted c.as_slice.result.now)
    (ap (λ (h : Held). over_replica (all_effect (lists_of h) c.args.deleted)) (sym c.state-state.ensures)
    ∙ ap (λ (ids : List Text). over_replica
    (prints (Generation (length (lists_of st).log) ∷ document_lines (meaning st) c.args.deleted ids)))
    (sym (c.as_slice.ensures ∙ c.in_ok-ids.ensures)))
    (k c.args.out.now) (k c.print_all.new.out) c.in_err-print_all.field-0.0 c.in_err-print_all.ensures)

pub returns : goal.returns
returns g c =
    let r = g.R.Replica in
    let k = g.K.Sink.known in
    let st = c.state-state.result.now in
    printed r.known r.is_open r.crash g.met.R.Replica.settled c.args.replica.now c.requires _
    (Generation (length (lists_of st).log) ∷ document_lines (meaning st) c.args.deleted c.as_slice.result.now)
    (ap (λ (h : Held). over_replica (all_effect (lists_of h) c.args.deleted)) (sym c.state-state.ensures)
    ∙ ap (λ (ids : List Text). over_replica
    (prints (Generation (length (lists_of st).log) ∷ document_lines (meaning st) c.args.deleted ids)))
    (sym (c.as_slice.ensures ∙ c.in_ok-ids.ensures)))
    (k c.args.out.now) (k c.print_all.new.out) c.in_ok-print_all.ensures
