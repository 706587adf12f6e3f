-- The image was written anew, or was not.
use Rattle.std.proofs.Common.{Err, refl, sym, ap, arith}
use Rattle.std.proofs.lemmas.Result.{err_from_is_err_and}
use Rattle.disks.specs.Disks.{disks_known}
use Rattle.replica_volume.proofs.Compacts.{apart, disk_compacting, is_other, left_alone, never_bad, not_put, not_read, own_image}
use Rattle.replica_volume.proofs.Compacts.{own_header, put_leaves_compacted, written_anew}
use Rattle.replica_volume.proofs.replica.Volume.write_anew.Goals as goal

-- ---- nothing was written

pub returns-in_err-opened-clause-writes : goal.returns-in_err-opened-clause-writes
returns-in_err-opened-clause-writes g c t =
    let known = g.D.Disk.known in let tells = g.D.Disk.tells in let old = c.args.self.now in
    let k = c.requires.«open».keeps t in let read = c.in_err-opened.ensures.reads in
    let new = record old { disks = c.open_images.new.disks } in
    let alone = left_alone known old k new (c.in_err-opened.ensures.looks t) refl refl refl refl in
    let why = err_from_is_err_and c.from_residual.result c.from_residual.ensures.1 in
    rw (why.1, why.2)
    (not_read known old k tells new read.0 c.in_err-opened.field-0.0 (read.1 t) read.2 alone.looks alone.keeps)

pub returns-in-Err-Bad-clause-writes : goal.returns-in-Err-Bad-clause-writes
returns-in-Err-Bad-clause-writes g c t =
    let known = g.D.Disk.known in let old = c.args.self.now in let k = c.requires.«open».keeps t in
    let opened = c.in_ok-opened.opened in let read = c.in_ok-opened.ensures.reads in
    absurd (never_bad known old k opened.side opened.image c.in-Err-Bad.place
    (own_image known old k read.0 opened.side opened.image (read.1 t) read.2.0)
    (rw c.in-Err-Bad.field-0-is at c.in-Err-Bad.ensures))

pub returns-in-Err-Memory-clause-writes : goal.returns-in-Err-Memory-clause-writes
returns-in-Err-Memory-clause-writes g c t =
    let known = g.D.Disk.known in let old = c.args.self.now in let k = c.requires.«open».keeps t in
    left_alone known old k (record old { disks = c.open_images.new.disks }) (c.in_ok-opened.ensures.looks t)
    refl refl refl refl

pub returns-in-Err-clause-writes : goal.returns-in-Err-clause-writes
returns-in-Err-clause-writes g c t =
    let known = g.D.Disk.known in let old = c.args.self.now in let k = c.requires.«open».keeps t in
    left_alone known old k (record old { disks = c.open_images.new.disks }) (c.in_ok-opened.ensures.looks t)
    refl refl refl refl

-- ---- the image was not put in place

pub put_spelled-requires-clause-store : goal.put_spelled-requires-clause-store
put_spelled-requires-clause-store g c t =
    let opened = c.in_ok-opened.opened in let image = opened.image in (
      image.journal,
      opened.side,
      (λ e. c.other_side.ensures.other (sym e)),
      (image.format, image.header, image.bodies, c.in_ok-opened.ensures.ok t),
    )

pub returns-in-Err-put_spelled-clause-writes : goal.returns-in-Err-put_spelled-clause-writes
returns-in-Err-put_spelled-clause-writes g c t =
    let known = g.D.Disk.known in let tells = g.D.Disk.tells in let old = c.args.self.now in
    let k = c.requires.«open».keeps t in
    let opened = c.in_ok-opened.opened in let image = opened.image in let read = c.in_ok-opened.ensures.reads in
    let o = own_image known old k read.0 opened.side image (read.1 t) read.2.0 in
    let head = c.with_limit-header.result in
    let same = own_header known old k opened.side image head c.into_header.result c.limit.result o c.into_header.ensures
    c.limit.ensures.limit c.with_limit-header.ensures in
    let mid = record old { disks = c.open_images.new.disks } in
    let new = record old { disks = c.put_spelled.new.disks } in
    let sides = is_other opened.side c.other_side.result c.in_ok-opened.ensures.side c.other_side.ensures.side
    c.other_side.ensures.other in
    rw (c.from.ensures)
    (not_put known old k tells mid new c.in-Err-put_spelled.fault
    (put_leaves_compacted known old k opened.side image o c.in-Ok.steps c.in-Ok.ensures c.other_side.result
    head c.in-Ok-compacted_bodies.spelled sides same c.in-Ok-compacted_bodies.ensures
    (disks_known known c.open_images.new.disks) (disks_known known c.put_spelled.new.disks)
    (apart opened.side c.other_side.result c.other_side.ensures.other) (c.in_ok-opened.ensures.looks t)
    (c.in_ok-opened.ensures.ok t) (c.put_spelled.ensures.any_moment t _ c.in-Ok-compacted_bodies.ensures))
    (left_alone known old k mid (c.in_ok-opened.ensures.looks t) refl refl refl refl)
    (λ is. ap (λ d. record old { disks = d }) (c.in-Err-put_spelled.ensures.untouched (ap Err is))))

pub returns-in-Err-put_spelled-clause-cause : goal.returns-in-Err-put_spelled-clause-cause
returns-in-Err-put_spelled-clause-cause g c =
    let first = c.open_images.ensures.cause.later in let placed = c.in-Err-put_spelled.ensures.cause in record {
      later = omega (arith, first, placed.later);
      failed = λ e. omega (
        arith,
        first,
        placed.failed (ap Err (disk_compacting c.in-Err-put_spelled.fault (cc (e, c.from.ensures)))),
      );
    }

-- ---- it was put in place

pub returns-clause-writes : goal.returns-clause-writes
returns-clause-writes g c t =
    let known = g.D.Disk.known in let tells = g.D.Disk.tells in let old = c.args.self.now in
    let k = c.requires.«open».keeps t in
    let opened = c.in_ok-opened.opened in let image = opened.image in let read = c.in_ok-opened.ensures.reads in
    let o = own_image known old k read.0 opened.side image (read.1 t) read.2.0 in
    let head = c.with_limit-header.result in
    let same = own_header known old k opened.side image head c.into_header.result c.limit.result o c.into_header.ensures
    c.limit.ensures.limit c.with_limit-header.ensures in
    let standing = c.in-Ok-put_spelled.standing in let put = c.in-Ok-put_spelled.ensures in
    let new = record old {
      disks = c.put_spelled.new.disks;
      side = standing.side;
      journal = standing.journal;
      uids = standing.uids;
    } in
    let spells = c.in-Ok-compacted_bodies.ensures in
    let sides = is_other opened.side c.other_side.result c.in_ok-opened.ensures.side c.other_side.ensures.side
    c.other_side.ensures.other in
    written_anew known old k opened.side image o c.in-Ok.steps c.in-Ok.ensures c.other_side.result
    head c.in-Ok-compacted_bodies.spelled sides same spells
    new standing refl refl refl refl c.requires.«open».nothing (put.ok t _ spells) tells put.side put.uids (put.length _ spells)
    _ (λ i. record { before = c.length-before.ensures i; after = c.length-after.ensures i })
    (put_leaves_compacted known old k opened.side image o c.in-Ok.steps c.in-Ok.ensures c.other_side.result
    head c.in-Ok-compacted_bodies.spelled sides same spells
    (disks_known known c.open_images.new.disks) (disks_known known c.put_spelled.new.disks)
    (apart opened.side c.other_side.result c.other_side.ensures.other) (c.in_ok-opened.ensures.looks t)
    (c.in_ok-opened.ensures.ok t) (c.put_spelled.ensures.any_moment t _ spells))
