-- One byte was written over an empty root or over another byte.
use Rattle.disks.specs.Disks.{disks_known}
use Rattle.volume.proofs.Roots.{named}
use Rattle.volume.proofs.one_disk.name_image.Goals as goal

pub returns-clause-named : goal.returns-clause-named
returns-clause-named g c t =
    let known = g.D.Disk.known in
    named c.write_synced_on.result c.args.side c.naming.result (disks_known known c.args.disks.now).files.root
    (disks_known known c.write_synced_on.new.disks).files.root
    c.naming.ensures (c.requires.short t) (c.write_synced_on.ensures.written t) (c.write_synced_on.ensures.durable t)
