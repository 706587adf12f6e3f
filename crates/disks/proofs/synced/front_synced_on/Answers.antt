-- The disks were turned, and then one of them was synced and looked at.
use Rattle.disks.proofs.Turned.{leaves_joint_images}
use Rattle.disks.proofs.synced.front_synced_on.Goals as goal

pub returns-clause-any_moment : goal.returns-clause-any_moment
returns-clause-any_moment g c t =
    leaves_joint_images g.D.Disk.known c.args.disks.now c.turn_to.new.self c.front_synced.new.disk c.args.name
    c.turn_to.ensures (c.front_synced.ensures.any_moment t)
