-- The disks were turned, and then one of them was synced and its image read.
use Rattle.std.proofs.Common.{◌∙◌, sym, ap}
use Rattle.disk_model.specs.Device.{File}
use Rattle.disks.specs.Disks.{disks_known}
use Rattle.disks.proofs.Turned.{file_before, file_after, leaves_joint_images, same_elsewhere, stays_settled}
use Rattle.volume.proofs.Opens.{looks}
use Rattle.volume.proofs.one_disk.read_image_on.Goals as goal

pub returns-clause-reads : goal.returns-clause-reads
returns-clause-reads g c =
    let read = c.read_image.ensures.reads in (
      read.0,
      (λ t. read.1 t ∙ ap (λ (f : File). f.seen)
          (file_before g.D.Disk.known c.args.disks.now c.turn_to.new.self c.args.name c.turn_to.ensures)),
      read.2,
    )

pub returns-clause-looks : goal.returns-clause-looks
returns-clause-looks g c t =
    let known = g.D.Disk.known in let old = c.args.disks.now in let mid = c.turn_to.new.self
    in let new = c.read_image.new.disk in
    let name = c.args.name in let turned = c.turn_to.ensures in let kept = c.read_image.ensures.beside t in
    looks name (disks_known known old) (disks_known known new)
    (ap (λ (f : File). f.seen) (sym (file_after known old mid new name turned kept)) ∙ c.read_image.ensures.seen t
    ∙ ap (λ (f : File). f.seen) (file_before known old mid name turned))
    (stays_settled known old mid new name turned kept (c.read_image.ensures.stays_settled t))
    (same_elsewhere known old mid new name turned kept)
    (leaves_joint_images known old mid new name turned (c.read_image.ensures.any_moment t))
