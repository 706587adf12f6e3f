-- Only the room changes, and what is prepared are the parts of the step.
use Rattle.std.proofs.lemmas.Result.{IfOk-weaker}
use Rattle.replica_state.specs.Held.{lists_of}
use Rattle.replica_state.proofs.Steps.{gone_parts}
use Rattle.replica_state.proofs.state.State.prepare_gone.Goals as goal

pub returns-clause-lists : goal.returns-clause-lists
returns-clause-lists c = c.reserve_entry.ensures.lists

pub returns-clause-parts : goal.returns-clause-parts
returns-clause-parts c =
    IfOk-weaker c.of.result _ _ (λ prepared is. rw (is)
    (gone_parts (lists_of c.reserve_entry.new.self) c.args.doc c.args.trans c.args.moved)) c.of.ensures

pub returns-clause-ready : goal.returns-clause-ready
returns-clause-ready c =
    IfOk-weaker c.of.result _ _ (λ prepared is. rw (is)
    (record {
      collection = tt;
      log = c.in_ok-reserve_entry.ensures.entry;
      moved = c.in_ok-reserve_entry.ensures.place;
    })) c.of.ensures
