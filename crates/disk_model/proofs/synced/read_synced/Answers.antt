-- A sync and looks: a crash leaves no more than it might have left before.
use Rattle.disk_model.specs.Disk.{IsCrashImage}
use Rattle.disk_model.proofs.Runs.{goes_on, weaker}
use Rattle.disk_model.proofs.synced.read_synced.Goals as goal

pub returns-in-Ok-fill-clause-any_moment : goal.returns-in-Ok-fill-clause-any_moment
returns-in-Ok-fill-clause-any_moment g c t =
    let known = g.D.Disk.known in let old = known c.args.disk.now in let mid = known c.settled_length.new.disk in
    goes_on old mid (known c.fill.new.disk) (IsCrashImage old.now) (c.in-Ok.ensures.any_moment t)
    (weaker mid (known c.fill.new.disk) (IsCrashImage mid.now) (IsCrashImage old.now)
    (c.in-Ok-fill.ensures.any_moment t) (c.in-Ok.ensures.any_moment t).here)

pub returns-in-Err-clause-any_moment : goal.returns-in-Err-clause-any_moment
returns-in-Err-clause-any_moment g c t =
    let known = g.D.Disk.known in let old = known c.args.disk.now in let mid = known c.settled_length.new.disk in
    goes_on old mid (known c.fill.new.disk) (IsCrashImage old.now) (c.in-Ok.ensures.any_moment t)
    (weaker mid (known c.fill.new.disk) (IsCrashImage mid.now) (IsCrashImage old.now) (c.in-Err.ensures.any_moment t)
    (c.in-Ok.ensures.any_moment t).here)
