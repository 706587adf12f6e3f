-- Only that nothing beside the file moves.
use Rattle.std.proofs.Common.{length}
use Rattle.disk_model.specs.Disk.{IsAny, was_cut, wrote}
use Rattle.disk_model.proofs.Runs.{started, took, took_or_not}
use Rattle.disk_model.proofs.Syncs.{synced}
use Rattle.disk_model.proofs.synced.cut_write_synced.Goals as goal

pub returns-in_err-cut-clause-any_moment : goal.returns-in_err-cut-clause-any_moment
returns-in_err-cut-clause-any_moment g c t =
    let known = g.D.Disk.known in let old = known c.args.disk.now in
    took_or_not old old (known c.cut.new.self) (was_cut 0 old.now) IsAny
    (started old IsAny (λ image i. tt)) (c.in_err-cut.ensures.crash_err t) (λ image i. tt)

pub returns-in_err-write_at-clause-any_moment : goal.returns-in_err-write_at-clause-any_moment
returns-in_err-write_at-clause-any_moment g c t =
    let known = g.D.Disk.known in let old = known c.args.disk.now in let cut = known c.cut.new.self in
    took_or_not old cut (known c.write_at.new.self) (wrote 0 (length c.args.bytes.now) cut.now) IsAny
    (took old old cut (was_cut 0 old.now) IsAny (started old IsAny (λ image i. tt)) (c.in_ok-cut.ensures.crash t)
    (λ image i. tt))
    (c.in_err-write_at.ensures.crash_err t) (λ image i. tt)

pub returns-clause-any_moment : goal.returns-clause-any_moment
returns-clause-any_moment g c t =
    let known = g.D.Disk.known in let old = known c.args.disk.now in let cut = known c.cut.new.self
    in let mid = known c.write_at.new.self in
    synced old mid (known c.sync.new.self) mid.seen IsAny c.sync.result
    (took old cut mid (wrote 0 (length c.args.bytes.now) cut.now) IsAny
    (took old old cut (was_cut 0 old.now) IsAny (started old IsAny (λ image i. tt)) (c.in_ok-cut.ensures.crash t)
    (λ image i. tt))
    (c.in_ok-write_at.ensures.crash t) (λ image i. tt))
    (c.sync.ensures.durable t) (c.sync.ensures.crash_err t) tt
