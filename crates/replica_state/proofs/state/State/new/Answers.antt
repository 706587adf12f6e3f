-- All lists are empty.
use Rattle.std.proofs.Common.{ap}
use Rattle.std.specs.Prelude.{List}
use Rattle.replica_state.specs.Held.{Heading, named}
use Rattle.replica_state.proofs.Steps.{empty_state}
use Rattle.replica_state.proofs.state.State.new.Goals as goal

pub returns-clause-lists : goal.returns-clause-lists
returns-clause-lists c = λ i. record {
  name = c.args.name;
  uid = c.args.uid;
  docs = c.new-collection.ensures.docs i;
  log = c.new-log.ensures i;
  known = c.new-known.ensures.pairs i;
  told = c.new-told.ensures.pairs i;
  indexes = named (c.new-collection.ensures.indexes i);
}

pub returns-clause-history : goal.returns-clause-history
returns-clause-history c =
    empty_state (record {
      name = c.args.name;
      uid = c.args.uid;
      docs = c.new-collection.result.docs.pairs;
      log =
          c.new-log.result.entries;
      known = c.new-known.result.pairs;
      told = c.new-told.result.pairs;
      indexes = named c.new-collection.result.indexes;
    })
    c.new-collection.ensures.docs c.new-log.ensures c.new-known.ensures.pairs c.new-told.ensures.pairs
    (ap (λ (hs : List Heading). named hs) c.new-collection.ensures.indexes)
