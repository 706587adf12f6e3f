-- A settled file, a write, and a sync.
use Rattle.std.proofs.Common.{length, arith, sym, subst}
use Rattle.disk_model.specs.Disk.{Torn, wrote}
use Rattle.disk_model.proofs.Images.{torn_same, torn_written}
use Rattle.disk_model.proofs.Runs.{took, took_or_not}
use Rattle.disk_model.proofs.Syncs.{begun, synced, torn_images}
use Rattle.disk_model.proofs.synced.write_synced.Goals as goal

pub returns-in_err-write_at-clause-any_moment : goal.returns-in_err-write_at-clause-any_moment
returns-in_err-write_at-clause-any_moment g c t e =
    let known = g.D.Disk.known in let old = known c.args.disk.now in let n = length c.args.bytes.now in
    took_or_not old old (known c.write_at.new.self) (wrote c.args.at n old.now) (Torn c.args.at n old.seen)
    (begun old old.seen (Torn c.args.at n old.seen) e (torn_same c.args.at n old.seen))
    (c.in_err-write_at.ensures.crash_err t)
    (torn_images old.now old.seen c.args.at n e)

pub returns-clause-any_moment : goal.returns-clause-any_moment
returns-clause-any_moment g c t e =
    let known = g.D.Disk.known in let old = known c.args.disk.now in let n = length c.args.bytes.now
    in let mid = known c.write_at.new.self in
    synced old mid (known c.sync.new.self) mid.seen (Torn c.args.at n old.seen) c.sync.result
    (took old old mid (wrote c.args.at n old.now) (Torn c.args.at n old.seen)
    (begun old old.seen (Torn c.args.at n old.seen) e (torn_same c.args.at n old.seen))
    (c.in_ok-write_at.ensures.crash t)
    (torn_images old.now old.seen c.args.at n e))
    (c.sync.ensures.durable t) (c.sync.ensures.crash_err t)
    (subst (Torn c.args.at n old.seen) (sym (c.in_ok-write_at.ensures.written t))
    (torn_written old.seen c.args.at c.args.bytes.now n (omega arith)))
