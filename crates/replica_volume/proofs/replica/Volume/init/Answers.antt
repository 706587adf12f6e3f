-- A crash in the making.
use Rattle.std.proofs.Common.{refl}
use Rattle.disks.specs.Disks.{disks_known}
use Rattle.replica_volume.proofs.Makes.{as_before_or_new}
use Rattle.replica_volume.proofs.replica.Volume.init.Goals as goal

pub returns-in_default-clause-reads : goal.returns-in_default-clause-reads
returns-in_default-clause-reads g c = ((disks_known g.D.Disk.known c.args.disks).files.root.seen, (λ t. refl), tt)

pub returns-in-Err-clause-any_moment : goal.returns-in-Err-clause-any_moment
returns-in-Err-clause-any_moment g c t =
    let known = g.D.Disk.known in
    as_before_or_new c.args.header (disks_known known c.args.disks) (disks_known known c.init_images.new.disks)
    (c.init_images.ensures.any_moment t)

pub returns-clause-any_moment : goal.returns-clause-any_moment
returns-clause-any_moment g c t =
    let known = g.D.Disk.known in
    as_before_or_new c.args.header (disks_known known c.args.disks) (disks_known known c.init_images.new.disks)
    (c.init_images.ensures.any_moment t)
