-- The run ends as it was decided, or by the output.
use Rattle.store_commands.proofs.Printing.{ended_badly, ended_well}
use Rattle.store_commands.proofs.top.finish.Goals as goal

pub returns-in-Ok : goal.returns-in-Ok
returns-in-Ok g c = ended_well _ _ _ _ _ c.ended_as-outcome.ensures (rw c.ended_as-outcome.ensures at c.in-Ok.ensures)

pub returns-in-Err : goal.returns-in-Err
returns-in-Err g c =
    rw c.ended_as-outcome.ensures
    at (ended_badly _ _ _ c.ended_as-outcome.result _ _ c.broken_end.ensures.memory c.broken_end.ensures.other
    c.in-Err.ensures)
