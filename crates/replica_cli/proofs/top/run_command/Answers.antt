-- The command was run over the store on the disks.
use Rattle.replica_cli.proofs.top.run_command.Goals as goal

pub returns : goal.returns
returns g c = rw c.into_disks.ensures (rw c.new-store.ensures at c.run_over-outcome.ensures)
