-- Each part is put in its place.
use Rattle.std.proofs.Common.{◌∙◌, ◌≤◌, ap, sym, subst}
use Rattle.std.specs.Prelude.{IfSome}
use Rattle.replica_state.specs.Held.{Held, chosen, meaning_of}
use Rattle.replica_state.specs.Prepared.{Takes}
use Rattle.replica_state.proofs.state.State.apply.Goals as goal

pub replace-requires : goal.replace-requires
replace-requires c = rw (c.into_inner-replacement.ensures) (subst
    (λ (s : Held). Takes s.collection.docs s.collection.indexes s.collection.vacant c.args.prepared.parts.value.replacement)
    (sym c.self.view_is) c.requires.collection)

pub push_entry-requires : goal.push_entry-requires
push_entry-requires c = rw (c.into_inner-replacement.ensures) (subst (λ (s : Held). IfSome c.args.prepared.parts.value.entry (λ _. 1 ≤ s.log.room))
    (sym c.self.view_is) c.requires.log)

pub put_place-requires : goal.put_place-requires
put_place-requires c = rw (c.into_inner-replacement.ensures) (subst
    (λ (s : Held). IfSome c.args.prepared.parts.value.moved (λ m. 1 ≤ (chosen m.table s.known s.told).room))
    (sym c.self.view_is) c.requires.moved)

pub returns-clause-lists : goal.returns-clause-lists
returns-clause-lists c =
    rw (← c.self.view_is, ← c.into_inner-replacement.ensures) (λ i. record {
      name = c.self.inside.name;
      uid = c.self.inside.uid;
      docs = c.replace.ensures.docs i;
      log = c.push_entry.ensures i;
      known = c.put_place.ensures.known i;
      told = c.put_place.ensures.told i;
      indexes = c.replace.ensures.indexes i;
    })

pub returns-clause-step : goal.returns-clause-step
returns-clause-step c = λ x is.
    ap meaning_of (returns-clause-lists c) ∙ is
