-- There is no room for the position, or the lines are printed.
use Rattle.std.proofs.Common.{◌∙◌, ◌∷◌, ◌++◌, ap, sym}
use Rattle.std.specs.Prelude.{map}
use Rattle.replica_state.specs.Held.{Held, lists_of}
use Rattle.replica_core.specs.Commands.Effects.{prints}
use Rattle.store_commands.specs.Deeds.{over_replica}
use Rattle.u1_base.specs.Places.{Place}
use Rattle.translog.specs.Log.{Log, end_of}
use Rattle.replica_core.specs.Commands.Effects.{Known, Now, OfDatabase, OfReplica, Told}
use Rattle.replica_core.specs.Commands.Logs.{info_effect}
use Rattle.std.proofs.lemmas.Result.{err_from_is_err_and}
use Rattle.store_commands.proofs.Exits.{starved}
use Rattle.store_commands.proofs.Showing.{broken, printed}
use Rattle.store_commands.proofs.info.info.Goals as goal

pub returns-in_err-at : goal.returns-in_err-at
returns-in_err-at g c =
    let r = g.R.Replica in
    let p = err_from_is_err_and c.from_residual.result c.from_residual.ensures.1 in
    rw (p.1, p.2) (starved r.known r.is_open r.crash g.met.R.Replica.settled _ c.args.replica.now _ c.requires)

pub returns-in_err-print_info : goal.returns-in_err-print_info
returns-in_err-print_info g c =
    let r = g.R.Replica in
    let k = g.K.Sink.known in
    let st = c.state-state.result.now in
    let p = err_from_is_err_and c.from_residual-in_err-print_info.result c.from_residual-in_err-print_info.ensures.1 in
    rw (p.1, p.2)
    (broken r.known r.is_open r.crash g.met.R.Replica.settled c.args.replica.now c.requires _
    (OfReplica st.uid ∷ OfDatabase st.name ∷ Now c.in_ok-at.at ∷ map (λ kept. Known kept.0 kept.1) (lists_of st).known
    ++ map (λ kept. Told kept.0 kept.1) (lists_of st).told)
    (ap (λ (h : Held). over_replica (info_effect (lists_of h))) (sym c.state-state.ensures)
    ∙ ap (λ (at : Place). over_replica
    (prints (OfReplica st.uid ∷ OfDatabase st.name ∷ Now at ∷ map (λ kept. Known kept.0 kept.1) (lists_of st).known
    ++ map (λ kept. Told kept.0 kept.1) (lists_of st).told)))
    (sym (c.in_ok-at.ensures ∙ ap (λ (log : Log). end_of log.entries) c.log.ensures)))
    (k c.args.out.now) (k c.print_info.new.out) c.in_err-print_info.field-0.0 c.in_err-print_info.ensures)

pub returns : goal.returns
returns g c =
    let r = g.R.Replica in
    let k = g.K.Sink.known in
    let st = c.state-state.result.now in
    printed r.known r.is_open r.crash g.met.R.Replica.settled c.args.replica.now c.requires _
    (OfReplica st.uid ∷ OfDatabase st.name ∷ Now c.in_ok-at.at ∷ map (λ kept. Known kept.0 kept.1) (lists_of st).known
    ++ map (λ kept. Told kept.0 kept.1) (lists_of st).told)
    (ap (λ (h : Held). over_replica (info_effect (lists_of h))) (sym c.state-state.ensures)
    ∙ ap (λ (at : Place). over_replica
    (prints (OfReplica st.uid ∷ OfDatabase st.name ∷ Now at ∷ map (λ kept. Known kept.0 kept.1) (lists_of st).known
    ++ map (λ kept. Told kept.0 kept.1) (lists_of st).told)))
    (sym (c.in_ok-at.ensures ∙ ap (λ (log : Log). end_of log.entries) c.log.ensures)))
    (k c.args.out.now) (k c.print_info.new.out) c.in_ok-print_info.ensures
