-- A settled file, a cut, and a sync.
use Rattle.std.proofs.Common.{arith, sym, subst}
use Rattle.disk_model.specs.Disk.{Cut, was_cut}
use Rattle.disk_model.proofs.Images.{cut_same, cut_taken}
use Rattle.disk_model.proofs.Runs.{took, took_or_not}
use Rattle.disk_model.proofs.Syncs.{begun, synced, cut_images}
use Rattle.disk_model.proofs.synced.cut_synced.Goals as goal

pub returns-in_err-cut-clause-any_moment : goal.returns-in_err-cut-clause-any_moment
returns-in_err-cut-clause-any_moment g c t e =
    let known = g.D.Disk.known in let old = known c.args.disk.now in
    took_or_not old old (known c.cut.new.self) (was_cut c.args.to old.now) (Cut c.args.to old.seen)
    (begun old old.seen (Cut c.args.to old.seen) e (cut_same c.args.to old.seen))
    (c.in_err-cut.ensures.crash_err t)
    (cut_images old.now old.seen c.args.to e)

pub returns-clause-any_moment : goal.returns-clause-any_moment
returns-clause-any_moment g c t e =
    let known = g.D.Disk.known in let old = known c.args.disk.now in let mid = known c.cut.new.self in
    synced old mid (known c.sync.new.self) mid.seen (Cut c.args.to old.seen) c.sync.result
    (took old old mid (was_cut c.args.to old.now) (Cut c.args.to old.seen)
    (begun old old.seen (Cut c.args.to old.seen) e (cut_same c.args.to old.seen))
    (c.in_ok-cut.ensures.crash t)
    (cut_images old.now old.seen c.args.to e))
    (c.sync.ensures.durable t) (c.sync.ensures.crash_err t)
    (subst (Cut c.args.to old.seen) (sym (c.in_ok-cut.ensures.shortened t))
    (cut_taken old.seen c.args.to c.args.to (omega arith)))
