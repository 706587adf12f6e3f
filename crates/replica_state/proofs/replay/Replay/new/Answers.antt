-- The state of no steps has no index, and the list is empty.
use Rattle.std.proofs.Common.{List, ◌∙◌, ap}
use Rattle.replica_state.specs.Held.{meaning}
use Rattle.replica_state.specs.Indexes.{with_indexes}
use Rattle.replica_state.specs.inner.Named.{names_of}
use Rattle.replica_state.specs.Waiting.{with_accepted}
use Rattle.replica_state.specs.declared.index.Index.{Index}
use Rattle.replica_state.specs.declared.waiting.Waiting.{Waiting}
use Rattle.replica_state.proofs.Replaying.{none_made, none_there}
use Rattle.replica_state.proofs.replay.Replay.new.Goals as goal

pub invariant_of-result : goal.invariant_of-result
invariant_of-result c = record {
  none = none_there c.new-state.result c.args.name c.args.uid c.new-state.ensures.history;
}

pub returns : goal.returns
returns c =
    ap (λ (ws : List Waiting). with_indexes (with_accepted (meaning c.new-state.result) ws)
    (names_of c.new-listed.result.items)) c.new-waiting.ensures.items
    ∙ none_made (meaning c.new-state.result) (names_of c.new-listed.result.items) c.args.name c.args.uid
    c.new-state.ensures.history (ap (λ (l : List Index). names_of l) c.new-listed.ensures.items)
