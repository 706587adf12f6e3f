-- The image was written beside the store, and then named.
use Rattle.disks.specs.Disks.{disks_known}
use Rattle.volume.proofs.Moves.{image_run, both_runs, moved, other_short}
use Rattle.volume.proofs.replacing.put_in_place.Goals as goal

pub name_image-requires-clause-short : goal.name_image-requires-clause-short
name_image-requires-clause-short g c t =
    let known = g.D.Disk.known in
    other_short c.args.to (disks_known known c.args.disks.now).files (disks_known known c.write_on.new.disks).files
    c.requires.side (c.in_ok-journal.ensures.others t) (c.requires.store t)

pub returns-in_err-journal-clause-any_moment : goal.returns-in_err-journal-clause-any_moment
returns-in_err-journal-clause-any_moment g c t head bodies spells journal from format former rows ne store =
    let known = g.D.Disk.known in
    image_run journal from c.args.to format former head rows bodies ne c.requires.side
    (disks_known known c.args.disks.now) (disks_known known c.write_on.new.disks) store
    (c.in_err-journal.ensures.any_moment t)

pub returns-in_err-name_image-clause-any_moment : goal.returns-in_err-name_image-clause-any_moment
returns-in_err-name_image-clause-any_moment g c t head bodies spells journal from format former rows ne store =
    let known = g.D.Disk.known in let first = c.in_ok-journal.ensures in
    both_runs journal from c.args.to format former head rows bodies ne c.requires.side c.in_ok-journal.journal
    (disks_known known c.args.disks.now) (disks_known known c.write_on.new.disks)
    (disks_known known c.name_image.new.disks) store
    (first.others t) (first.ok t head bodies spells) (first.any_moment t) (c.in_err-name_image.ensures.any_moment t)

pub returns-clause-any_moment : goal.returns-clause-any_moment
returns-clause-any_moment g c t head bodies spells journal from format former rows ne store =
    let known = g.D.Disk.known in let first = c.in_ok-journal.ensures in
    both_runs journal from c.args.to format former head rows bodies ne c.requires.side c.in_ok-journal.journal
    (disks_known known c.args.disks.now) (disks_known known c.write_on.new.disks)
    (disks_known known c.name_image.new.disks) store
    (first.others t) (first.ok t head bodies spells) (first.any_moment t) (c.in_ok-name_image.ensures.any_moment t)

pub returns-clause-ok : goal.returns-clause-ok
returns-clause-ok g c t head bodies spells =
    let known = g.D.Disk.known in let first = c.in_ok-journal.ensures in let last = c.in_ok-name_image.ensures in
    moved c.args.to head bodies c.in_ok-journal.journal (disks_known known c.write_on.new.disks).files
    (disks_known known c.name_image.new.disks).files c.requires.side (last.others t) (first.ok t head bodies spells)
    (last.named t)
