-- There is no room for the changes, or they are printed.
use Rattle.std.proofs.Common.{◌∙◌, ◌∷◌, ap, sym}
use Rattle.std.specs.Prelude.{map}
use Rattle.replica_state.specs.Held.{Held, meaning}
use Rattle.replica_core.specs.Commands.Effects.{prints}
use Rattle.store_commands.specs.Deeds.{over_replica}
use Rattle.replica_core.specs.Commands.Effects.{Changed, Now}
use Rattle.replica_core.specs.Commands.Logs.{changes_effect}
use Rattle.replica_reads.specs.declared.changes.Changed.{Changed as ChangedSince}
use Rattle.std.proofs.lemmas.Result.{err_from_is_err_and}
use Rattle.store_commands.proofs.Exits.{starved}
use Rattle.store_commands.proofs.Showing.{broken, printed}
use Rattle.store_commands.proofs.changes.changes.Goals as goal

pub returns-in_err-changed : goal.returns-in_err-changed
returns-in_err-changed g c =
    let r = g.R.Replica in
    let p = err_from_is_err_and c.from_residual.result c.from_residual.ensures.1 in
    rw (p.1, p.2) (starved r.known r.is_open r.crash g.met.R.Replica.settled _ c.args.replica.now _ c.requires)

pub returns-in_err-print_changed : goal.returns-in_err-print_changed
returns-in_err-print_changed g c =
    let r = g.R.Replica in
    let k = g.K.Sink.known in
    let p = err_from_is_err_and c.from_residual-in_err-print_changed.result
    c.from_residual-in_err-print_changed.ensures.1 in
    rw (p.1, p.2)
    (broken r.known r.is_open r.crash g.met.R.Replica.settled c.args.replica.now c.requires _
    (Now c.in_ok-changed.changed.at ∷ map Changed c.in_ok-changed.changed.changes)
    (ap (λ (h : Held). over_replica (changes_effect (meaning h) c.args.generation)) (sym c.state.ensures)
    ∙ ap (λ (x : ChangedSince). over_replica (prints (Now x.at ∷ map Changed x.changes))) (sym c.in_ok-changed.ensures))
    (k c.args.out.now) (k c.print_changed.new.out) c.in_err-print_changed.field-0.0 c.in_err-print_changed.ensures)

pub returns : goal.returns
returns g c =
    let r = g.R.Replica in
    let k = g.K.Sink.known in
    printed r.known r.is_open r.crash g.met.R.Replica.settled c.args.replica.now c.requires _
    (Now c.in_ok-changed.changed.at ∷ map Changed c.in_ok-changed.changed.changes)
    (ap (λ (h : Held). over_replica (changes_effect (meaning h) c.args.generation)) (sym c.state.ensures)
    ∙ ap (λ (x : ChangedSince). over_replica (prints (Now x.at ∷ map Changed x.changes))) (sym c.in_ok-changed.ensures))
    (k c.args.out.now) (k c.print_changed.new.out) c.in_ok-print_changed.ensures
