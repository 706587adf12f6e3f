-- A command that is built, and one that is not.
use Rattle.std.proofs.Common.{sym}
use Rattle.store_commands.proofs.Unbuilt.{unbuilt}
use Rattle.store_commands.proofs.carrying.carry_out.Goals as goal

pub returns-in-Ok : goal.returns-in-Ok
returns-in-Ok g c = c.carry_out_built.ensures

pub returns-in-Err : goal.returns-in-Err
returns-in-Err g c = unbuilt c.args.command.now c.args.seed _ _ _ _ (sym c.in-Err.ensures)
