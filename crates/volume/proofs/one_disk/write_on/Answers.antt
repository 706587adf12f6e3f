-- The disks were turned, and then one of them was written to whole.
use Rattle.disk_model.specs.Disk.{IsAny}
use Rattle.disks.proofs.Turned.{file_after, leaves_joint}
use Rattle.volume.proofs.Standing.{written_whole}
use Rattle.volume.proofs.one_disk.write_on.Goals as goal

pub returns-clause-written : goal.returns-clause-written
returns-clause-written g c t =
    let known = g.D.Disk.known in let put = c.write.ensures in
    written_whole c.write.result c.args.image.now.bytes _ _
    (file_after known c.args.disks.now c.turn_to.new.self c.write.new.disk c.args.name c.turn_to.ensures
    (put.beside t)) (put.written t) (put.durable t)

pub returns-clause-any_moment : goal.returns-clause-any_moment
returns-clause-any_moment g c t =
    leaves_joint g.D.Disk.known c.args.disks.now c.turn_to.new.self c.write.new.disk c.args.name c.turn_to.ensures
    IsAny (c.write.ensures.any_moment t)
