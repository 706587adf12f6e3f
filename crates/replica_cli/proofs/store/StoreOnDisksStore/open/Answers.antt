-- The store was opened, or not.
use Rattle.disks.specs.Disks.{disks_known}
use Rattle.replica_cli.proofs.Opening.{fails_to_open, opens, same_image}
use Rattle.replica_cli.proofs.store.StoreOnDisksStore.open.Goals as goal

pub returns-in-Ok-clause-ok : goal.returns-in-Ok-clause-ok
returns-in-Ok-clause-ok g c =
    let known = g.D.Disk.known in let opened = c.in-Ok.ensures in
    opens g.D.Disk.tells known (disks_known known c.args.self.disks) c.in-Ok.volume opened.open opened.left
    opened.any_moment opened.cause.later

pub returns-in-Ok-clause-image : goal.returns-in-Ok-clause-image
returns-in-Ok-clause-image g c =
    let known = g.D.Disk.known in
    same_image g.D.Disk.tells (disks_known known c.args.self.disks) (disks_known known c.in-Ok.volume.disks)
    c.in-Ok.ensures.left

pub returns-in-Err-clause-err : goal.returns-in-Err-clause-err
returns-in-Err-clause-err g c =
    let known = g.D.Disk.known in let failed = c.in-Err.ensures in
    rw c.new.ensures
    (fails_to_open g.D.Disk.tells known
    (disks_known known c.args.self.disks) failed.reads.0 c.in-Err.disks c.in-Err.fault
    failed.reads.1 failed.reads.2 failed.left failed.any_moment failed.looks failed.memory failed.cause)
