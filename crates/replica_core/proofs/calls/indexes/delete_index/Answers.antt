-- No index of the name is lent.
use Rattle.std.proofs.Common.{◌∙◌, ap, inr, not, refl, subst}
use Rattle.replica_state.specs.Held.{Held, meaning}
use Rattle.conflicts.specs.Writing.{IsRefusal}
use Rattle.replica_core.specs.CallsDecide.{delete_index_decides}
use Rattle.replica_core.specs.CallsFaults.{index_failure}
use Rattle.replica_core.specs.declared.calls.indexes.IndexFault.TheVariants.{IndexUnknown}
use Rattle.replica_core.proofs.CallsEnds.{undone}
use Rattle.replica_core.proofs.CallsIndexes.{unknown_is}
use Rattle.replica_core.proofs.calls.indexes.delete_index.Goals as goal

pub returns-then-is_none : goal.returns-then-is_none
returns-then-is_none g c =
    undone g.R.Replica.known g.R.Replica.is_open g.R.Replica.crash index_failure c.args.replica.now _ IndexUnknown
    c.requires (λ found h. g.met.R.Replica.settled c.args.replica.now found c.requires h)
    (inr (
      refl,
      subst (λ (h : Held). IsRefusal (delete_index_decides c.args.name.now (meaning h)) IndexUnknown) c.state.ensures
          (unknown_is c.state.result.now c.args.name.now c.index_table.result c.index_table.ensures
          (c.is_none.ensures ∙ ap not c.if-is_none.true)),
    ))
