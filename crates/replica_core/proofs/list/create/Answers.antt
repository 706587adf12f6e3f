-- Without memory for the expressions nothing is done, and else the copy has their texts.
use Rattle.std.proofs.Common.{ap, inl, refl, sym, List}
use Rattle.conflicts.specs.State.{Text}
use Rattle.replica_core.specs.Replica.{state_in}
use Rattle.replica_core.specs.CallsDecide.{create_decides}
use Rattle.replica_core.specs.CallsFaults.{index_failure}
use Rattle.replica_core.specs.Runs.{bare, call_failure}
use Rattle.replica_core.specs.declared.list.CallFault.TheVariants.{Memory}
use Rattle.replica_core.proofs.CallsEnds.{undone}
use Rattle.replica_core.proofs.Runs.{bared_to}
use Rattle.replica_core.proofs.list.create.Goals as goal

pub returns-in_default : goal.returns-in_default
returns-in_default g c =
    undone g.R.Replica.known g.R.Replica.is_open g.R.Replica.crash call_failure c.args.replica.now _ Memory
    c.requires (λ found h. g.met.R.Replica.settled c.args.replica.now found c.requires h) (inl refl)

pub returns : goal.returns
returns g c =
    let s = state_in (g.R.Replica.known c.args.replica.now) in
    bared_to g.R.Replica.known g.R.Replica.is_open g.R.Replica.crash index_failure
    (create_decides c.args.name.now c.in-Ok.exprs.texts s) _ c.args.replica.now c.create_index.new.replica
    c.create_index.result _
    (ap (λ (texts : List Text). bare (create_decides c.args.name.now texts s)) (sym c.in-Ok.ensures))
    c.end_of_index.ensures c.create_index.ensures
