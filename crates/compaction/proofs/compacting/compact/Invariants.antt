use Rattle.std.proofs.Common.{◌≡◌, map, vec_len}
use Rattle.replica_state.specs.Held.{meaning}
use Rattle.replica_state.specs.Steps.{step_of}
use Rattle.compaction.specs.Compaction.{compacted}
use Rattle.compaction.specs.inner.Noted.{later_of}
use Rattle.compaction.proofs.Backward.{goes_to}
use Rattle.compaction.proofs.compacting.compact.Given as goal

abbrev pub decreases-loop-step : goal.decreases-loop-step
decreases-loop-step l = vec_len l.steps

-- what is still to do leads to the compaction
abbrev pub invariant-loop-step : goal.invariant-loop-step
invariant-loop-step l = goes_to (meaning l.state) (later_of l.noted) l.steps.items l.left.items
    ≡ compacted (meaning l.state) (map step_of l.fn.steps)
