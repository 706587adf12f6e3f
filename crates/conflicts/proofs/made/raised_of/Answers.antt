-- A clock is raised unless it is full.
use Rattle.conflicts.proofs.MadeClocks.{made_one_is, made_one_full}
use Rattle.conflicts.proofs.made.raised_of.Goals as goal

pub returns-in-Ok : goal.returns-in-Ok
returns-in-Ok c = made_one_is c.args.clock c.args.own.now c.in-Ok.raised c.in-Ok.ensures.value

pub returns-in-Err-ClockFull : goal.returns-in-Err-ClockFull
returns-in-Err-ClockFull c =
    made_one_full c.args.clock c.args.own.now (rw c.in-Err-ClockFull.field-0-is at c.in-Err-ClockFull.ensures.counters)
