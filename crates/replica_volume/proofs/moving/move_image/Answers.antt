-- An image of format 1 is moved, or stays where it is.
use Rattle.std.proofs.Common.{sym}
use Rattle.disks.specs.Disks.{disks_known}
use Rattle.replica_volume.proofs.Moves.{is_moved, moved_stands, spelled_at, stays_same}
use Rattle.replica_volume.proofs.moving.move_image.Goals as goal

pub put_spelled-requires-clause-store : goal.put_spelled-requires-clause-store
put_spelled-requires-clause-store g c t =
    let image = c.args.image.now in (
      image.journal,
      c.args.side,
      (λ e. c.other_side.ensures.other (sym e)),
      (image.format, image.header, image.bodies, c.requires.store t),
    )

pub put_spelled-requires-clause-spelled : goal.put_spelled-requires-clause-spelled
put_spelled-requires-clause-spelled g c =
    let all = c.requires.says in (
      all.0,
      spelled_at c.args.image.now c.header.result.now all.0 c.in_ok-spelled.spelled c.header.ensures
          (c.in_ok-spelled.ensures all.0 all.1 all.2),
    )

pub returns-in_err-spelled-clause-any_moment : goal.returns-in_err-spelled-clause-any_moment
returns-in_err-spelled-clause-any_moment g c t =
    let image = c.args.image.now in let all = c.requires.says in
    stays_same image.journal c.args.side image all.0 all.1 all.2 (disks_known g.D.Disk.known c.args.disks.now)
    (c.requires.store t)

pub returns-clause-ok : goal.returns-clause-ok
returns-clause-ok g c t =
    moved_stands c.args.image.now c.header.result.now c.in_ok-spelled.spelled
    (disks_known g.D.Disk.known c.put_spelled.new.disks).files c.put_spelled.result
    c.header.ensures c.in_ok-spelled.ensures (c.put_spelled.ensures.ok t)

pub returns-clause-any_moment : goal.returns-clause-any_moment
returns-clause-any_moment g c t =
    let known = g.D.Disk.known in let image = c.args.image.now in let all = c.requires.says in
    is_moved image.journal c.args.side image all.0 all.1 all.2 c.other_side.result c.header.result.now
    c.in_ok-spelled.spelled
    (disks_known known c.args.disks.now)
    (disks_known known c.put_spelled.new.disks) c.requires.first c.other_side.ensures.other c.header.ensures
    (c.requires.store t) (c.in_ok-spelled.ensures all.0 all.1 all.2) (c.put_spelled.ensures.any_moment t all.0)
