-- Only the room changes, and what is prepared are the parts of the step.
use Rattle.std.proofs.lemmas.Result.{IfOk-weaker}
use Rattle.replica_state.specs.Held.{named}
use Rattle.replica_state.proofs.Steps.{move_parts}
use Rattle.replica_state.proofs.state.State.prepare_move.Goals as goal

pub returns-in_err-reserve_place-clause-lists : goal.returns-in_err-reserve_place-clause-lists
returns-in_err-reserve_place-clause-lists c =
    rw (← c.self.view_is) (λ i. record {
      name = c.self.inside.name;
      uid = c.self.inside.uid;
      docs =
          c.self.inside.collection.docs.pairs;
      log = c.self.inside.log.entries;
      known = c.reserve_place.ensures.known i;
      told = c.reserve_place.ensures.told i;
      indexes = named c.self.inside.collection.indexes;
    })

pub returns-clause-lists : goal.returns-clause-lists
returns-clause-lists c =
    rw (← c.self.view_is) (λ i. record {
      name = c.self.inside.name;
      uid = c.self.inside.uid;
      docs =
          c.self.inside.collection.docs.pairs;
      log = c.self.inside.log.entries;
      known = c.reserve_place.ensures.known i;
      told = c.reserve_place.ensures.told i;
      indexes = named c.self.inside.collection.indexes;
    })

pub returns-clause-parts : goal.returns-clause-parts
returns-clause-parts c =
    IfOk-weaker c.of.result _ _ (λ prepared is. rw (is)
    (move_parts (record {
      name = c.self.inside.name;
      uid = c.self.inside.uid;
      docs =
          c.self.inside.collection.docs.pairs;
      log = c.self.inside.log.entries;
      known = c.reserve_place.new.known.pairs;
      told = c.reserve_place.new.told.pairs;
      indexes = named c.self.inside.collection.indexes;
    })
    c.args.moved)) c.of.ensures

pub returns-clause-ready : goal.returns-clause-ready
returns-clause-ready c =
    IfOk-weaker c.of.result _ _ (λ prepared is. rw (is)
    (record { collection = tt; log = tt; moved = c.in_ok-reserve_place.ensures.room })) c.of.ensures
