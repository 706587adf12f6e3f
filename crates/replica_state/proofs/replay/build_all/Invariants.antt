-- The indexes that are listed still, over those that were built, are the ones of the list.
use Rattle.std.proofs.Common.{◌≡◌, vec_len}
use Rattle.replica_state.specs.Held.{meaning}
use Rattle.replica_state.specs.Indexes.{with_indexes}
use Rattle.replica_state.specs.inner.Named.{names_of}
use Rattle.replica_state.proofs.Replaying.{over}
use Rattle.replica_state.proofs.replay.build_all.Given as goal

abbrev pub invariant-loop-index : goal.invariant-loop-index
invariant-loop-index l = over (meaning l.state) (names_of l.listed.items)
    ≡ with_indexes (meaning l.fn.state) (names_of l.fn.listed.items)

abbrev pub decreases-loop-index : goal.decreases-loop-index
decreases-loop-index l = vec_len l.listed
