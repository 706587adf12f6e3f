-- The image was read, and stays where it is or is moved.
use Rattle.std.proofs.Common.{Err, refl, ap, arith}
use Rattle.disks.specs.Disks.{disks_known}
use Rattle.disks.specs.Joint.{seen_of}
use Rattle.disks.proofs.Runs.{reads_may_stay}
use Rattle.replica_volume.proofs.Moves.{looks_leave, looks_left, not_called, opening_leaves, opening_left}
use Rattle.replica_volume.proofs.Moves.{opens_as_before}
use Rattle.replica_volume.proofs.Opens.{disk_placing, memory_placing, not_first, not_placed, not_replayed}
use Rattle.replica_volume.proofs.Opens.{opened_from, opened_volume}
use Rattle.replica_volume.proofs.replica.Volume.open_volume.Goals as goal

-- ---- nothing was written

pub returns-in-Err-clause-left : goal.returns-in-Err-clause-left
returns-in-Err-clause-left g c t =
    let known = g.D.Disk.known in
    looks_left (disks_known known c.args.disks) (disks_known known c.open_images.new.disks)
    (c.open_images.ensures.looks t)

pub returns-in-Err-clause-moves : goal.returns-in-Err-clause-moves
returns-in-Err-clause-moves g c t =
    let known = g.D.Disk.known in
    looks_leave (disks_known known c.args.disks) (disks_known known c.open_images.new.disks)
    (c.open_images.ensures.looks t)

pub returns-in-Err-clause-any_moment : goal.returns-in-Err-clause-any_moment
returns-in-Err-clause-any_moment g c t =
    let known = g.D.Disk.known in let law = g.met.D.Disk.seen_may_stay in let trio = c.args.disks.trio in
    opens_as_before (disks_known known c.args.disks) (disks_known known c.open_images.new.disks)
    (reads_may_stay known trio (law trio.root t) (law trio.left t) (law trio.right t))
    (looks_leave (disks_known known c.args.disks) (disks_known known c.open_images.new.disks)
    (c.open_images.ensures.looks t))

pub returns-in-Err-replay_on-clause-reads : goal.returns-in-Err-replay_on-clause-reads
returns-in-Err-replay_on-clause-reads g c =
    let read = c.in-Ok.ensures.reads in let opened = c.in-Ok.opened in (
      read.0,
      read.1,
      not_replayed read.0 c.open_images.new.disks opened.side opened.image c.in-Err-replay_on.fault
          read.2.0 c.in-Err-replay_on.ensures,
    )

pub returns-in-Err-replay_on-clause-left : goal.returns-in-Err-replay_on-clause-left
returns-in-Err-replay_on-clause-left g c t =
    let known = g.D.Disk.known in
    looks_left (disks_known known c.args.disks) (disks_known known c.open_images.new.disks)
    (c.open_images.ensures.looks t)

pub returns-in-Err-replay_on-clause-moves : goal.returns-in-Err-replay_on-clause-moves
returns-in-Err-replay_on-clause-moves g c t =
    let known = g.D.Disk.known in
    looks_leave (disks_known known c.args.disks) (disks_known known c.open_images.new.disks)
    (c.open_images.ensures.looks t)

pub returns-in-Err-replay_on-clause-any_moment : goal.returns-in-Err-replay_on-clause-any_moment
returns-in-Err-replay_on-clause-any_moment g c t =
    let known = g.D.Disk.known in let law = g.met.D.Disk.seen_may_stay in let trio = c.args.disks.trio in
    opens_as_before (disks_known known c.args.disks) (disks_known known c.open_images.new.disks)
    (reads_may_stay known trio (law trio.root t) (law trio.left t) (law trio.right t))
    (looks_leave (disks_known known c.args.disks) (disks_known known c.open_images.new.disks)
    (c.open_images.ensures.looks t))

-- ---- the image was not put in place

pub returns-in-Err-bring_forward-clause-reads : goal.returns-in-Err-bring_forward-clause-reads
returns-in-Err-bring_forward-clause-reads g c =
    let read = c.in-Ok.ensures.reads in (
      read.0,
      read.1,
      rw (c.from.ensures)
          (not_placed read.0 c.bring_forward.new.disks c.in-Err-bring_forward.fault),
    )

pub returns-in-Err-bring_forward-clause-left : goal.returns-in-Err-bring_forward-clause-left
returns-in-Err-bring_forward-clause-left g c t =
    let known = g.D.Disk.known in let law = g.met.D.Disk.seen_may_stay in let trio = c.bring_forward.new.disks.trio in
    opening_left (disks_known known c.args.disks) (disks_known known c.open_images.new.disks)
    (disks_known known c.bring_forward.new.disks)
    (c.open_images.ensures.looks t) (reads_may_stay known trio (law trio.root t) (law trio.left t) (law trio.right t))
    (c.bring_forward.ensures.any_moment t)

pub returns-in-Err-bring_forward-clause-looks : goal.returns-in-Err-bring_forward-clause-looks
returns-in-Err-bring_forward-clause-looks g c t never =
    let known = g.D.Disk.known in let old = disks_known known c.args.disks in let read = c.in-Ok.ensures.reads
    in let opened = c.in-Ok.opened in
    not_called known c.args.disks c.open_images.new.disks c.bring_forward.new.disks
    (c.bring_forward.ensures.stays
    (not_first read.0 (seen_of old.files) opened.side opened.image c.in-Ok-replay_on.made read.2.0
    (read.1 t) c.in-Ok-replay_on.ensures never))
    (c.open_images.ensures.looks t)

pub returns-in-Err-bring_forward-clause-memory : goal.returns-in-Err-bring_forward-clause-memory
returns-in-Err-bring_forward-clause-memory g c t e =
    let known = g.D.Disk.known in
    not_called known c.args.disks c.open_images.new.disks c.bring_forward.new.disks
    (c.in-Err-bring_forward.ensures.untouched
    (ap Err (memory_placing c.in-Err-bring_forward.fault (cc (e, c.from.ensures)))))
    (c.open_images.ensures.looks t)

pub returns-in-Err-bring_forward-clause-moves : goal.returns-in-Err-bring_forward-clause-moves
returns-in-Err-bring_forward-clause-moves g c t =
    let known = g.D.Disk.known in let law = g.met.D.Disk.seen_may_stay in let trio = c.args.disks.trio in
    opening_leaves (disks_known known c.args.disks) (disks_known known c.open_images.new.disks)
    (disks_known known c.bring_forward.new.disks)
    (c.open_images.ensures.looks t) (reads_may_stay known trio (law trio.root t) (law trio.left t) (law trio.right t))
    (c.bring_forward.ensures.any_moment t)

pub returns-in-Err-bring_forward-clause-any_moment : goal.returns-in-Err-bring_forward-clause-any_moment
returns-in-Err-bring_forward-clause-any_moment g c t =
    let known = g.D.Disk.known in let law = g.met.D.Disk.seen_may_stay in let trio = c.args.disks.trio in
    let reads = reads_may_stay known trio (law trio.root t) (law trio.left t) (law trio.right t) in
    opens_as_before (disks_known known c.args.disks) (disks_known known c.bring_forward.new.disks) reads
    (opening_leaves (disks_known known c.args.disks) (disks_known known c.open_images.new.disks)
    (disks_known known c.bring_forward.new.disks)
    (c.open_images.ensures.looks t) reads (c.bring_forward.ensures.any_moment t))

pub returns-in-Err-bring_forward-clause-cause : goal.returns-in-Err-bring_forward-clause-cause
returns-in-Err-bring_forward-clause-cause g c =
    let first = c.open_images.ensures.cause.later in let placed = c.in-Err-bring_forward.ensures.cause in record {
      later = omega (arith, first, placed.later);
      failed = λ e. omega (
        arith,
        first,
        placed.failed
            (ap Err (disk_placing c.in-Err-bring_forward.fault (cc (e, c.from.ensures)))),
      );
    }

-- ---- the volume is open

pub returns-clause-reads : goal.returns-clause-reads
returns-clause-reads g c =
    let read = c.in-Ok.ensures.reads in let opened = c.in-Ok.opened in (
      read.0,
      read.1,
      opened_from read.0 opened.side opened.image c.in-Ok-replay_on.made _ read.2.0
          c.in-Ok-replay_on.ensures c.in-Ok-bring_forward.ensures.state c.in-Ok-bring_forward.ensures.limit,
    )

pub returns-clause-open : goal.returns-clause-open
returns-clause-open g c =
    opened_volume g.D.Disk.tells g.D.Disk.known c.in-Ok.opened.image c.in-Ok-replay_on.made
    c.in-Ok-bring_forward.finished.standing _
    c.in-Ok-bring_forward.ensures.ok c.in-Ok-bring_forward.ensures.side c.in-Ok-replay_on.ensures refl
    c.in-Ok-bring_forward.ensures.state refl refl refl c.new.ensures

pub returns-clause-left : goal.returns-clause-left
returns-clause-left g c t =
    let known = g.D.Disk.known in let law = g.met.D.Disk.seen_may_stay in let trio = c.bring_forward.new.disks.trio in
    opening_left (disks_known known c.args.disks) (disks_known known c.open_images.new.disks)
    (disks_known known c.bring_forward.new.disks)
    (c.open_images.ensures.looks t) (reads_may_stay known trio (law trio.root t) (law trio.left t) (law trio.right t))
    (c.bring_forward.ensures.any_moment t)

pub returns-clause-looks : goal.returns-clause-looks
returns-clause-looks g c t never =
    let known = g.D.Disk.known in let old = disks_known known c.args.disks in let read = c.in-Ok.ensures.reads
    in let opened = c.in-Ok.opened in
    not_called known c.args.disks c.open_images.new.disks c.bring_forward.new.disks
    (c.bring_forward.ensures.stays
    (not_first read.0 (seen_of old.files) opened.side opened.image c.in-Ok-replay_on.made read.2.0
    (read.1 t) c.in-Ok-replay_on.ensures never))
    (c.open_images.ensures.looks t)

pub returns-clause-moves : goal.returns-clause-moves
returns-clause-moves g c t =
    let known = g.D.Disk.known in let law = g.met.D.Disk.seen_may_stay in let trio = c.args.disks.trio in
    opening_leaves (disks_known known c.args.disks) (disks_known known c.open_images.new.disks)
    (disks_known known c.bring_forward.new.disks)
    (c.open_images.ensures.looks t) (reads_may_stay known trio (law trio.root t) (law trio.left t) (law trio.right t))
    (c.bring_forward.ensures.any_moment t)

pub returns-clause-any_moment : goal.returns-clause-any_moment
returns-clause-any_moment g c t =
    let known = g.D.Disk.known in let law = g.met.D.Disk.seen_may_stay in let trio = c.args.disks.trio in
    let reads = reads_may_stay known trio (law trio.root t) (law trio.left t) (law trio.right t) in
    opens_as_before (disks_known known c.args.disks) (disks_known known c.bring_forward.new.disks) reads
    (opening_leaves (disks_known known c.args.disks) (disks_known known c.open_images.new.disks)
    (disks_known known c.bring_forward.new.disks)
    (c.open_images.ensures.looks t) reads (c.bring_forward.ensures.any_moment t))
