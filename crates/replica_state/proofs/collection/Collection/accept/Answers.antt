-- Only the room changes.
use Rattle.std.proofs.Common.{sym, subst}
use Rattle.replica_state.specs.Keyed.{AreTables, Docs}
use Rattle.replica_state.proofs.Lists.{named_again, names_of_bare, order_kept, tables_of_bare}
use Rattle.replica_state.proofs.collection.Collection.accept.Goals as goal

pub invariant_of-self-inside : goal.invariant_of-self-inside
invariant_of-self-inside c =
    let old = c.self.inside.indexes.items in
    let new = c.new_document.new.indexes.items in (
      order_kept new old (names_of_bare new old c.new_document.ensures.same) c.self.inside.named,
      (
        subst (λ (d : Docs). AreTables d new) (sym c.new_document.ensures.docs)
            (tables_of_bare c.self.inside.docs.pairs new old c.new_document.ensures.same c.self.inside.tied),
        tt,
      ),
    )

pub returns-clause-indexes : goal.returns-clause-indexes
returns-clause-indexes c =
    rw (← c.self.view_is) (named_again c.new_document.new.indexes.items c.self.inside.indexes.items
    (names_of_bare c.new_document.new.indexes.items c.self.inside.indexes.items c.new_document.ensures.same))
