-- The lines are printed, or not to their end.
use Rattle.std.proofs.Common.{ap, sym}
use Rattle.std.specs.Prelude.{map}
use Rattle.replica_state.specs.Held.{Held, lists_of}
use Rattle.store_commands.specs.Deeds.{over_replica}
use Rattle.replica_core.specs.Commands.Effects.{Index}
use Rattle.replica_core.specs.Commands.Indexes.{index_list_effect}
use Rattle.std.proofs.lemmas.Result.{err_from_is_err_and}
use Rattle.store_commands.proofs.Showing.{broken, printed}
use Rattle.store_commands.proofs.index_list.index_list.Goals as goal

pub returns-in_err-print_indexes : goal.returns-in_err-print_indexes
returns-in_err-print_indexes g c =
    let r = g.R.Replica in
    let k = g.K.Sink.known in
    let p = err_from_is_err_and c.from_residual.result c.from_residual.ensures.1 in
    rw (p.1, p.2)
    (broken r.known r.is_open r.crash g.met.R.Replica.settled c.args.replica.now c.requires _
    (map (λ index. Index index.0 index.1) (lists_of c.state.result.now).indexes)
    (ap (λ (h : Held). over_replica (index_list_effect (lists_of h))) (sym c.state.ensures))
    (k c.args.out.now) (k c.print_indexes.new.out) c.in_err-print_indexes.field-0.0 c.in_err-print_indexes.ensures)

pub returns : goal.returns
returns g c =
    let r = g.R.Replica in
    let k = g.K.Sink.known in
    printed r.known r.is_open r.crash g.met.R.Replica.settled c.args.replica.now c.requires _
    (map (λ index. Index index.0 index.1) (lists_of c.state.result.now).indexes)
    (ap (λ (h : Held). over_replica (index_list_effect (lists_of h))) (sym c.state.ensures))
    (k c.args.out.now) (k c.print_indexes.new.out) c.in_ok-print_indexes.ensures
