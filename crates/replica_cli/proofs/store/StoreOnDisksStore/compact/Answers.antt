-- The volume was compacted, or not.
use Rattle.std.specs.Prelude.{Result, Ok, Err}
use Rattle.disks.specs.declared.fault.CompactFault.{CompactFault}
use Rattle.disks.specs.declared.fault.Sizes.{Sizes}
use Rattle.replica_cli.proofs.Compacting.{compacts_so}
use Rattle.replica_cli.proofs.store.StoreOnDisksStore.compact.Goals as goal

pub returns : goal.returns
returns g c =
    let done = c.compact.ensures in
    compacts_so g.D.Disk.tells g.D.Disk.known c.args.opened.now c.compact.new.self done.state done.limit done.cause.later
    done.any_moment c.requires c.compact.result done.«open» done.sizes done.compacts done.need done.sound done.looks
    done.cause
