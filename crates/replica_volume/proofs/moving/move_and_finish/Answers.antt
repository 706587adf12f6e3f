-- Nothing was written where memory ran out.
use Rattle.disks.specs.Disks.{disks_known}
use Rattle.replica_volume.proofs.Moves.{stays_same}
use Rattle.replica_volume.proofs.moving.move_and_finish.Goals as goal

pub returns-in_err-state-clause-any_moment : goal.returns-in_err-state-clause-any_moment
returns-in_err-state-clause-any_moment g c t =
    let image = c.args.image.now in let says = c.requires.says in
    stays_same image.journal c.args.side image says.0 says.1 says.2
    (disks_known g.D.Disk.known c.args.disks.now) (c.requires.store t)
