-- An index of the name is there.
use Rattle.std.proofs.Common.{◌≡◌, subst, Some}
use Rattle.std.specs.Option.{option_map}
use Rattle.replica_state.specs.Held.{Held, meaning}
use Rattle.replica_core.specs.Replica.{state_in}
use Rattle.conflicts.specs.Writing.{same_exprs}
use Rattle.replica_core.proofs.CallsIndexes.{alike_done, alike_is}
use Rattle.replica_core.proofs.calls.indexes.create_index.Goals as goal

pub returns-in-Some : goal.returns-in-Some
returns-in-Some g c =
    let s = state_in (g.R.Replica.known c.args.replica.now) in
    alike_done g.R.Replica.known g.R.Replica.is_open g.R.Replica.crash c.args.replica.now _ c.in-Some.alike
    c.accept_alike.result c.requires (λ found h. g.met.R.Replica.settled c.args.replica.now found c.requires h)
    (alike_is c.args.name.now c.args.exprs.texts (s.index c.args.name.now) c.in-Some.alike
    (subst (λ (h : Held). Some c.in-Some.alike ≡ option_map (λ kept. same_exprs kept c.args.exprs.texts)
    ((meaning h).index c.args.name.now)) c.state.ensures c.in-Some.ensures.value))
    c.accept_alike.ensures
