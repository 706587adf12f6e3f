use Rattle.std.proofs.Common.{map, take}
use Rattle.replica_state.specs.Steps.{step_of}
use Rattle.compaction.specs.Images.{AreSpelled}
use Rattle.compaction.proofs.spelling.spell.Given as goal

-- the first steps are spelled
abbrev pub invariant-loop-step : goal.invariant-loop-step
invariant-loop-step l = AreSpelled l.own (map step_of (take l.step-index l.steps)) l.spelled.bodies l.spelled.uids.uids
