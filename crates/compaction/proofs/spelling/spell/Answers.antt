use Rattle.std.proofs.Common.{map, take, sym, subst, length, ◌<◌, arith}
use Rattle.conflicts.specs.State.{History}
use Rattle.replica_state.specs.Steps.{step_of}
use Rattle.compaction.specs.Images.{AreSpelled}
use Rattle.compaction.proofs.Bodies.{one_spelled, one_taken}
use Rattle.compaction.proofs.spelling.spell.Goals as goal

pub loop-step-preserved : goal.loop-step-preserved
loop-step-preserved c =
    let l = c.loop-step in
    let low : l.step-index < length c.args.steps.now = omega arith in
    let done = map step_of (take l.step-index c.args.steps.now) in
    subst (λ (h : History). AreSpelled c.args.own.now h c.add.new.self.bodies c.add.new.self.uids.uids)
    (sym (one_taken step_of c.args.steps.now l.step-index c.step-item.result low c.step-item.is))
    (one_spelled c.args.own.now done _ l.spelled.bodies _ l.spelled.uids.uids _ l.invariant c.in_ok-add.ensures.ok)
