-- There is no such index, there is no room for its keys, or they are printed.
use Rattle.std.proofs.Common.{◌∙◌, List, ap, sym}
use Rattle.std.proofs.lemmas.Result.{err_from_is_err_and}
use Rattle.std.specs.Prelude.{map}
use Rattle.replica_state.specs.Held.{lists_of, meaning_of}
use Rattle.index_tables.specs.Order.{Key}
use Rattle.replica_state.specs.Keyed.{keyed}
use Rattle.store_commands.specs.Deeds.{over_replica}
use Rattle.replica_core.specs.Commands.Effects.{Keyed, prints}
use Rattle.replica_reads.specs.Answers.{keys_by}
use Rattle.store_commands.proofs.Answered.{over_found, unknown}
use Rattle.store_commands.proofs.Exits.{starved}
use Rattle.store_commands.proofs.Showing.{broken, printed}
use Rattle.store_commands.proofs.keys.keys.Goals as goal

pub returns-in_default : goal.returns-in_default
returns-in_default g c =
    let r = g.R.Replica in
    let l = lists_of (r.known c.args.replica.now).state in
    unknown r.known r.is_open r.crash g.met.R.Replica.settled c.args.replica.now c.requires
    ((meaning_of l).index c.args.name.now)
    (λ exprs. prints (map Keyed (keys_by (keyed exprs l.docs)))) (g.K.Sink.known c.args.out.now)
    (rw c.state.ensures at c.in_default.ensures)

pub returns-in_err-keys : goal.returns-in_err-keys
returns-in_err-keys g c =
    let r = g.R.Replica in
    let p = err_from_is_err_and c.from_residual.result c.from_residual.ensures.1 in
    rw (p.1, p.2) (starved r.known r.is_open r.crash g.met.R.Replica.settled _ c.args.replica.now _ c.requires)

pub returns-in_err-print_keys : goal.returns-in_err-print_keys
returns-in_err-print_keys g c =
    let r = g.R.Replica in
    let k = g.K.Sink.known in
    let l = lists_of (r.known c.args.replica.now).state in
    let lent = rw c.state.ensures at c.in-Some.ensures in
    let exprs = c.in-Some.index.now.exprs.texts in
    let p = err_from_is_err_and c.from_residual-in_err-print_keys.result c.from_residual-in_err-print_keys.ensures.1 in
    rw (p.1, p.2)
    (broken r.known r.is_open r.crash g.met.R.Replica.settled c.args.replica.now c.requires _
    (map Keyed c.as_slice.result.now)
    (over_found ((meaning_of l).index c.args.name.now) exprs
    (λ exprs. prints (map Keyed (keys_by (keyed exprs l.docs)))) lent.0
    ∙ ap (λ (ks : List Key). over_replica (prints (map Keyed ks)))
    (sym (c.as_slice.ensures
    ∙ c.in_ok-keys.ensures.documents (r.known c.args.replica.now).state.collection.docs lent.1)))
    (k c.args.out.now) (k c.print_keys.new.out) c.in_err-print_keys.field-0.0
    c.in_err-print_keys.ensures)

pub returns : goal.returns
returns g c =
    let r = g.R.Replica in
    let k = g.K.Sink.known in
    let l = lists_of (r.known c.args.replica.now).state in
    let lent = rw c.state.ensures at c.in-Some.ensures in
    let exprs = c.in-Some.index.now.exprs.texts in
    printed r.known r.is_open r.crash g.met.R.Replica.settled c.args.replica.now c.requires _
    (map Keyed c.as_slice.result.now)
    (over_found ((meaning_of l).index c.args.name.now) exprs
    (λ exprs. prints (map Keyed (keys_by (keyed exprs l.docs)))) lent.0
    ∙ ap (λ (ks : List Key). over_replica (prints (map Keyed ks)))
    (sym (c.as_slice.ensures
    ∙ c.in_ok-keys.ensures.documents (r.known c.args.replica.now).state.collection.docs lent.1)))
    (k c.args.out.now) (k c.print_keys.new.out)
    c.in_ok-print_keys.ensures
