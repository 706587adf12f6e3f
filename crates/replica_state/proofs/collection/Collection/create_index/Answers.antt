-- Only the room changes.
use Rattle.std.proofs.Common.{List, map, sym, subst, ap}
use Rattle.replica_state.specs.Held.{named}
use Rattle.replica_state.specs.Keyed.{AreTables}
use Rattle.replica_state.specs.Named.{AreNamed, heading}
use Rattle.replica_state.specs.declared.index.Index.{Index}
use Rattle.replica_state.proofs.collection.Collection.create_index.Goals as goal

pub invariant_of-self-inside : goal.invariant_of-self-inside
invariant_of-self-inside c = (
  subst AreNamed (sym c.new_index.ensures.same) c.self.inside.named,
  (subst (AreTables c.self.inside.docs.pairs) (sym c.new_index.ensures.same) c.self.inside.tied, tt),
)

pub returns-clause-indexes : goal.returns-clause-indexes
returns-clause-indexes c =
    rw (← c.self.view_is) (ap (λ (xs : List Index). named (map heading xs)) c.new_index.ensures.same)
