-- The state of replayed steps, before its documents have what they accepted last, and before its indexes are built.
use Rattle.std.specs.Prelude.{map}
use Rattle.conflicts.specs.State.{State}
use Rattle.replica_state.specs.Held.{meaning}
use Rattle.replica_state.specs.Indexes.{with_indexes}
use Rattle.replica_state.specs.Waiting.{with_accepted}
use Rattle.replica_state.specs.declared.replay.Replay.{Replay}

-- THE STATE of the steps: the log and the positions are made, the indexes are listed, and of the documents all but the
-- acceptances that wait
abbrev pub replayed : Replay → State
replayed r = with_indexes (with_accepted (meaning r.state) r.waiting.items)
    (map (λ x. (x.name, x.exprs.texts)) r.listed.items)
