-- What was known of the volume is known of the closed store.
use Rattle.std.proofs.Common.{refl, arith}
use Rattle.replica_cli.proofs.Files.{closes_so}
use Rattle.replica_cli.proofs.store.StoreOnDisksStore.close.Goals as goal

pub returns-clause-known : goal.returns-clause-known
returns-clause-known g c =
    let disks = c.leave.ensures in
    rw (c.new.ensures, disks) (record {
      leaves = λ k o crashed. crashed;
      moment = refl;
      faults = refl;
      need = λ is. closes_so g.D.Disk.tells g.D.Disk.known c.args.opened is;
    })
