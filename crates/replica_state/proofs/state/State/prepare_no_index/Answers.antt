-- The index goes, and nothing is needed for it.
use Rattle.std.proofs.lemmas.Result.{IfOk-weaker}
use Rattle.replica_state.specs.Held.{lists_of}
use Rattle.replica_state.proofs.Steps.{delete_parts}
use Rattle.replica_state.proofs.state.State.prepare_no_index.Goals as goal

pub returns-clause-parts : goal.returns-clause-parts
returns-clause-parts c =
    IfOk-weaker c.of.result _ _ (λ prepared is. rw (is)
    (delete_parts (lists_of c.args.self.now) c.args.name)) c.of.ensures

pub returns-clause-ready : goal.returns-clause-ready
returns-clause-ready c =
    IfOk-weaker c.of.result _ _ (λ prepared is. rw (is)
    (record { collection = tt; log = tt; moved = tt })) c.of.ensures
