-- The disks were turned, and then one of them was written to and synced.
use Rattle.std.proofs.Common.{length, sym, subst}
use Rattle.disk_model.specs.Disk.{Torn}
use Rattle.disk_model.specs.Device.{File, IsSettled}
use Rattle.disk_model.specs.Moments.{LeavesOnly}
use Rattle.disks.specs.Trio.{pick}
use Rattle.disks.specs.Disks.{disks_known}
use Rattle.disks.proofs.Turned.{as_one, file_before, leaves_joint}
use Rattle.disks.proofs.synced.write_synced_on.Goals as goal

pub returns-clause-any_moment : goal.returns-clause-any_moment
returns-clause-any_moment g c t settled =
    let known = g.D.Disk.known in let old = c.args.disks.now in let mid = c.turn_to.new.self
    in let new = c.write_synced.new.disk in
    let n = length c.args.bytes.now in let same = file_before known old mid c.args.name c.turn_to.ensures in
    leaves_joint known old mid new c.args.name c.turn_to.ensures
    (Torn c.args.at n (pick c.args.name (disks_known known old).files).seen)
    (subst (λ (f : File). LeavesOnly (as_one known mid) (as_one known new) (Torn c.args.at n f.seen)) same
    (c.write_synced.ensures.any_moment t (subst IsSettled (sym same) settled)))
