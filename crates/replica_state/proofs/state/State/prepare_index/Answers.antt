-- Only the room changes, and what is prepared are the parts of the step.
use Rattle.std.proofs.lemmas.Result.{IfOk-weaker}
use Rattle.replica_state.specs.Held.{named}
use Rattle.replica_state.proofs.Steps.{create_parts}
use Rattle.replica_state.proofs.state.State.prepare_index.Goals as goal

pub returns-in_err-replacement-clause-lists : goal.returns-in_err-replacement-clause-lists
returns-in_err-replacement-clause-lists c =
    rw (← c.self.view_is) (λ i. record {
      name = c.self.inside.name;
      uid = c.self.inside.uid;
      docs =
          c.create_index.ensures.docs i;
      log = c.self.inside.log.entries;
      known = c.self.inside.known.pairs;
      told = c.self.inside.told.pairs;
      indexes = c.create_index.ensures.indexes i;
    })

pub returns-clause-lists : goal.returns-clause-lists
returns-clause-lists c =
    rw (← c.self.view_is) (λ i. record {
      name = c.self.inside.name;
      uid = c.self.inside.uid;
      docs =
          c.create_index.ensures.docs i;
      log = c.self.inside.log.entries;
      known = c.self.inside.known.pairs;
      told = c.self.inside.told.pairs;
      indexes = c.create_index.ensures.indexes i;
    })

pub returns-clause-parts : goal.returns-clause-parts
returns-clause-parts c =
    IfOk-weaker c.of.result _ _ (λ prepared is. rw (is)
    (create_parts (record {
      name = c.self.inside.name;
      uid = c.self.inside.uid;
      docs =
          c.create_index.new.self.docs.pairs;
      log = c.self.inside.log.entries;
      known = c.self.inside.known.pairs;
      told = c.self.inside.told.pairs;
      indexes = named c.create_index.new.self.indexes;
    })
    c.in_ok-replacement.replacement c.args.name c.args.exprs.texts c.in_ok-replacement.ensures.after)) c.of.ensures

pub returns-clause-ready : goal.returns-clause-ready
returns-clause-ready c =
    IfOk-weaker c.of.result _ _ (λ prepared is. rw (is)
    (record { collection = c.in_ok-replacement.ensures.ready; log = tt; moved = tt })) c.of.ensures
