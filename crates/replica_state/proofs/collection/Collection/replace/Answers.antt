-- The order is that of the names with the replacement.
use Rattle.std.proofs.Common.{◌∙◌, sym, subst, ap}
use Rattle.replica_state.specs.Held.{Collected, Names}
use Rattle.replica_state.specs.Prepared.{Takes, names_with}
use Rattle.replica_state.proofs.Lists.{named_is}
use Rattle.replica_state.proofs.Named.{order_after}
use Rattle.replica_state.proofs.collection.Collection.replace.Goals as goal

pub replace-requires-clause-ready : goal.replace-requires-clause-ready
replace-requires-clause-ready c = subst (λ (s : Collected). Takes s.docs s.indexes s.vacant c.args.replacement)
    (sym c.self.view_is) c.requires

pub invariant_of-self-inside : goal.invariant_of-self-inside
invariant_of-self-inside c = (
  order_after c.args.replacement c.replace.new.indexes.items c.self.inside.indexes.items c.replace.ensures.names
      c.self.inside.named,
  (c.replace.ensures.tied, tt),
)

pub returns-clause-indexes : goal.returns-clause-indexes
returns-clause-indexes c =
    rw (← c.self.view_is)
    (named_is c.replace.new.indexes.items ∙ c.replace.ensures.names
    ∙ ap (λ (names : Names). names_with c.args.replacement names) (sym (named_is c.self.inside.indexes.items)))
