-- The root was read, and then the image that it names.
use Rattle.std.proofs.Common.{Ok, Err, refl, sym, ◌∙◌, subst}
use Rattle.std.proofs.lemmas.Result.{err_from_is_err_and}
use Rattle.disks.specs.Joint.{seen_of}
use Rattle.disks.specs.Disks.{disks_known}
use Rattle.journal.specs.Image.{ReadsAs}
use Rattle.journal.specs.Damage.{DamagedAt}
use Rattle.volume.specs.Opening.{OpensStore}
use Rattle.disks.specs.declared.fault.OpenFault.TheVariants as fault
use Rattle.volume.proofs.Finding.{found_standing, found_damaged}
use Rattle.volume.proofs.Opens.{looks_on, one_read, read_files, read_root, opened_store}
use Rattle.volume.proofs.opening.open_images.Goals as goal

pub returns-in_err-side-clause-reads : goal.returns-in_err-side-clause-reads
returns-in_err-side-clause-reads g c =
    let read = c.in_err-side.ensures.reads
    in let why = err_from_is_err_and c.from_residual.result c.from_residual.ensures.1 in
    rw (why.1, why.2) (read_root g.D.Disk.tells
    (seen_of (disks_known g.D.Disk.known c.args.disks.now).files) read.0 c.in_err-side.field-0.0 read.1 read.2)

pub returns-in-Ok-clause-reads : goal.returns-in-Ok-clause-reads
returns-in-Ok-clause-reads g c =
    let known = g.D.Disk.known in let old = (disks_known known c.args.disks.now).files
    in let mid = (disks_known known c.named_side.new.disks).files in
    let root = c.in_ok-side.ensures.reads in let read = c.in-Ok.ensures.reads in let image = c.in-Ok.image
    in let side = c.in_ok-side.side in
    read_files g.D.Disk.tells (seen_of old) root.0 read.0 side root.2.0
    (λ files. OpensStore files (Ok (record { side = side; image = image })))
    root.1 (λ t. read.1 t ∙ one_read side old mid (c.in_ok-side.ensures.looks t).seen) root.2.1 root.2.2
    (λ files e is. (
      found_standing files side root.2.0 image.format image.header image.bodies e root.2.2
          (subst (ReadsAs image.format image.header image.bodies) (sym is) read.2.0),
      read.2.1,
    ))

pub returns-in-Err-Damaged-clause-reads : goal.returns-in-Err-Damaged-clause-reads
returns-in-Err-Damaged-clause-reads g c =
    let known = g.D.Disk.known in let old = (disks_known known c.args.disks.now).files
    in let mid = (disks_known known c.named_side.new.disks).files in
    let root = c.in_ok-side.ensures.reads in let image = c.in-Err-Damaged.ensures.reads in let side = c.in_ok-side.side
    in let place = c.in-Err-Damaged.place in
    let broken = rw c.in-Err-Damaged.field-0-is at image.2 in
    read_files g.D.Disk.tells (seen_of old) root.0 image.0 side root.2.0
    (λ files. OpensStore files (Err (fault.Damaged side place)))
    root.1 (λ t. image.1 t ∙ one_read side old mid (c.in_ok-side.ensures.looks t).seen) root.2.1 root.2.2
    (λ files e is. found_damaged files side root.2.0 place e root.2.2 (subst (DamagedAt place) (sym is) broken))

pub returns-in-Err-Disk-clause-reads : goal.returns-in-Err-Disk-clause-reads
returns-in-Err-Disk-clause-reads g c = (seen_of (disks_known g.D.Disk.known c.args.disks.now).files, (λ t. refl), tt)

pub returns-in-Err-Memory-clause-reads : goal.returns-in-Err-Memory-clause-reads
returns-in-Err-Memory-clause-reads g c = (seen_of (disks_known g.D.Disk.known c.args.disks.now).files, (λ t. refl), tt)

pub returns-in_err-side-clause-looks : goal.returns-in_err-side-clause-looks
returns-in_err-side-clause-looks g c t = c.in_err-side.ensures.looks t

pub returns-in-Ok-clause-ok : goal.returns-in-Ok-clause-ok
returns-in-Ok-clause-ok g c t =
    let known = g.D.Disk.known in let mid = (disks_known known c.named_side.new.disks).files
    in let new = (disks_known known c.read_image_on.new.disks).files in
    let image = c.in-Ok.image in
    opened_store image.journal c.in_ok-side.side image.format image.header image.bodies mid new
    c.in_ok-side.ensures.side (c.in_ok-side.ensures.names t)
    (c.in-Ok.ensures.others t) (c.in-Ok.ensures.ok t)

pub returns-in-Ok-clause-looks : goal.returns-in-Ok-clause-looks
returns-in-Ok-clause-looks g c t =
    let known = g.D.Disk.known in
    looks_on (disks_known known c.args.disks.now) (disks_known known c.named_side.new.disks)
    (disks_known known c.read_image_on.new.disks)
    (c.in_ok-side.ensures.looks t) (c.in-Ok.ensures.looks t)

pub returns-in-Err-Damaged-clause-looks : goal.returns-in-Err-Damaged-clause-looks
returns-in-Err-Damaged-clause-looks g c t =
    let known = g.D.Disk.known in
    looks_on (disks_known known c.args.disks.now) (disks_known known c.named_side.new.disks)
    (disks_known known c.read_image_on.new.disks)
    (c.in_ok-side.ensures.looks t) (c.in-Err-Damaged.ensures.looks t)

pub returns-in-Err-Disk-clause-looks : goal.returns-in-Err-Disk-clause-looks
returns-in-Err-Disk-clause-looks g c t =
    let known = g.D.Disk.known in
    looks_on (disks_known known c.args.disks.now) (disks_known known c.named_side.new.disks)
    (disks_known known c.read_image_on.new.disks)
    (c.in_ok-side.ensures.looks t) (c.in-Err-Disk.ensures.looks t)

pub returns-in-Err-Memory-clause-looks : goal.returns-in-Err-Memory-clause-looks
returns-in-Err-Memory-clause-looks g c t =
    let known = g.D.Disk.known in
    looks_on (disks_known known c.args.disks.now) (disks_known known c.named_side.new.disks)
    (disks_known known c.read_image_on.new.disks)
    (c.in_ok-side.ensures.looks t) (c.in-Err-Memory.ensures.looks t)
