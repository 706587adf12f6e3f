-- Only the room changes, and what is prepared are the parts of the step.
use Rattle.std.proofs.lemmas.Result.{IfOk-weaker}
use Rattle.replica_state.specs.Held.{named}
use Rattle.replica_state.proofs.Steps.{accept_parts}
use Rattle.replica_state.proofs.state.State.prepare_accept.Goals as goal

pub returns-in_err-replacement-clause-lists : goal.returns-in_err-replacement-clause-lists
returns-in_err-replacement-clause-lists c =
    rw (← c.reserve_entry.ensures.lists, ← c.self.view_is) (λ i. record {
      name = c.self.inside.name;
      uid = c.self.inside.uid;
      docs = c.accept.ensures.docs i;
      log = c.self.inside.log.entries;
      known = c.self.inside.known.pairs;
      told = c.self.inside.told.pairs;
      indexes = c.accept.ensures.indexes i;
    })

pub returns-clause-lists : goal.returns-clause-lists
returns-clause-lists c =
    rw (← c.reserve_entry.ensures.lists, ← c.self.view_is) (λ i. record {
      name = c.self.inside.name;
      uid = c.self.inside.uid;
      docs = c.accept.ensures.docs i;
      log = c.self.inside.log.entries;
      known = c.self.inside.known.pairs;
      told = c.self.inside.told.pairs;
      indexes = c.accept.ensures.indexes i;
    })

pub returns-clause-parts : goal.returns-clause-parts
returns-clause-parts c =
    IfOk-weaker c.of.result _ _ (λ prepared is. rw (is)
    (accept_parts (record {
      name = c.self.inside.name;
      uid = c.self.inside.uid;
      docs = c.accept.new.self.docs.pairs;
      log = c.self.inside.log.entries;
      known = c.self.inside.known.pairs;
      told = c.self.inside.told.pairs;
      indexes = named c.accept.new.self.indexes;
    })
    c.in_ok-replacement.replacement c.args.doc c.args.accept c.args.trans c.args.moved
    c.in_ok-replacement.ensures.after)) c.of.ensures

pub returns-clause-ready : goal.returns-clause-ready
returns-clause-ready c =
    IfOk-weaker c.of.result _ _ (λ prepared is. rw (is)
    (record {
      collection = c.in_ok-replacement.ensures.ready;
      log = rw (← c.self.view_is) at c.in_ok-reserve_entry.ensures.entry;
      moved = rw (← c.self.view_is) at c.in_ok-reserve_entry.ensures.place;
    })) c.of.ensures
