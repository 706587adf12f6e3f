-- The entry and the place are those of a step that accepts nothing.
use Rattle.std.proofs.Common.{◌∙◌, ap}
use Rattle.conflicts.specs.State.{Gone, after}
use Rattle.replica_state.specs.Held.{Lists, lists_of, meaning_of, named}
use Rattle.replica_state.proofs.Steps.{gone_parts}
use Rattle.replica_state.proofs.state.State.note.Goals as goal

pub returns-clause-step : goal.returns-clause-step
returns-clause-step c =
    ap meaning_of (λ i. record {
      name = c.self.inside.name;
      uid = c.self.inside.uid;
      docs = c.self.inside.collection.docs.pairs;
      log = c.push.ensures.entries i;
      known = c.put_place.ensures.known i;
      told = c.put_place.ensures.told i;
      indexes = named c.self.inside.collection.indexes;
    })
    ∙ gone_parts (record {
      name = c.self.inside.name;
      uid = c.self.inside.uid;
      docs = c.self.inside.collection.docs.pairs;
      log = c.self.inside.log.entries;
      known = c.self.inside.known.pairs;
      told = c.self.inside.told.pairs;
      indexes = named c.self.inside.collection.indexes;
    })
    c.args.doc c.args.trans c.args.moved
    ∙ ap (λ (l : Lists). after (meaning_of l) (Gone c.args.doc c.args.trans c.args.moved))
    (ap lists_of c.self.view_is ∙ c.reserve_entry.ensures.lists)
