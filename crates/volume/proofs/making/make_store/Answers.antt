-- The image was written on one side and on the other, and then the root named it.
use Rattle.disks.specs.declared.name.DiskName.TheVariants.{Left}
use Rattle.disks.specs.Disks.{disks_known}
use Rattle.volume.proofs.Makes.{image_run, second_run, both_written, third_run, made, blank_short}
use Rattle.volume.proofs.making.make_store.Goals as goal

pub name_image-requires-clause-short : goal.name_image-requires-clause-short
name_image-requires-clause-short g c t =
    let known = g.D.Disk.known in let first = c.in_ok-write_on.ensures in let second = c.in_ok-write_on-2.ensures in
    let next = (disks_known known c.write_on-2.new.disks).files in
    blank_short c.args.image.now.bytes next
    (both_written c.args.image.now.bytes (disks_known known c.args.disks.now).files
    (disks_known known c.write_on.new.disks).files next (c.requires t)
    (first.others t) (second.others t) (first.written t) (second.written t))

pub returns-in_err-write_on-clause-any_moment : goal.returns-in_err-write_on-clause-any_moment
returns-in_err-write_on-clause-any_moment g c t head reads =
    let known = g.D.Disk.known in
    image_run head Left (disks_known known c.args.disks.now) (disks_known known c.write_on.new.disks)
    (λ e. absurd (cc e)) (c.requires t)
    (c.in_err-write_on.ensures.any_moment t)

pub returns-in_err-write_on-2-clause-any_moment : goal.returns-in_err-write_on-2-clause-any_moment
returns-in_err-write_on-2-clause-any_moment g c t head reads =
    let known = g.D.Disk.known in let first = c.in_ok-write_on.ensures in
    second_run head (disks_known known c.args.disks.now) (disks_known known c.write_on.new.disks)
    (disks_known known c.write_on-2.new.disks) (c.requires t)
    (first.others t) (first.any_moment t) (c.in_err-write_on-2.ensures.any_moment t)

pub returns-in_err-name_image-clause-any_moment : goal.returns-in_err-name_image-clause-any_moment
returns-in_err-name_image-clause-any_moment g c t head reads =
    let known = g.D.Disk.known in let first = c.in_ok-write_on.ensures in let second = c.in_ok-write_on-2.ensures in
    let old = disks_known known c.args.disks.now in let mid = disks_known known c.write_on.new.disks
    in let next = disks_known known c.write_on-2.new.disks in
    third_run head c.args.image.now.bytes old next (disks_known known c.name_image.new.disks) reads
    (both_written c.args.image.now.bytes old.files mid.files next.files (c.requires t) (first.others t)
    (second.others t) (first.written t) (second.written t))
    (second_run head old mid next (c.requires t) (first.others t) (first.any_moment t) (second.any_moment t))
    (c.in_err-name_image.ensures.any_moment t)

pub returns-clause-any_moment : goal.returns-clause-any_moment
returns-clause-any_moment g c t head reads =
    let known = g.D.Disk.known in let first = c.in_ok-write_on.ensures in let second = c.in_ok-write_on-2.ensures in
    let old = disks_known known c.args.disks.now in let mid = disks_known known c.write_on.new.disks
    in let next = disks_known known c.write_on-2.new.disks in
    third_run head c.args.image.now.bytes old next (disks_known known c.name_image.new.disks) reads
    (both_written c.args.image.now.bytes old.files mid.files next.files (c.requires t) (first.others t)
    (second.others t) (first.written t) (second.written t))
    (second_run head old mid next (c.requires t) (first.others t) (first.any_moment t) (second.any_moment t))
    (c.in_ok-name_image.ensures.any_moment t)

pub returns-clause-made : goal.returns-clause-made
returns-clause-made g c t =
    let known = g.D.Disk.known in let first = c.in_ok-write_on.ensures in let second = c.in_ok-write_on-2.ensures
    in let last = c.in_ok-name_image.ensures in
    let next = (disks_known known c.write_on-2.new.disks).files in
    made c.args.image.now.bytes next (disks_known known c.name_image.new.disks).files
    (both_written c.args.image.now.bytes (disks_known known c.args.disks.now).files
    (disks_known known c.write_on.new.disks).files next (c.requires t)
    (first.others t) (second.others t) (first.written t) (second.written t))
    (last.others t) (last.named t)
