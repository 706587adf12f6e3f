-- What the parts leave is the old file, one that does not read, or the empty image.
use Rattle.std.proofs.Common.{inl, refl, ◌∙◌}
use Rattle.disk_model.proofs.Runs.{weaker}
use Rattle.disk_model.proofs.Syncs.{begun}
use Rattle.journal.specs.Journal.{IsOnTheWay}
use Rattle.journal.specs.inner.Restarting.{IsAnew}
use Rattle.journal.proofs.Restarts.{on_the_way, first_of_image}
use Rattle.journal.proofs.restarting.restart_image.Goals as goal

pub returns-in_default-clause-any_moment : goal.returns-in_default-clause-any_moment
returns-in_default-clause-any_moment g c t =
    let known = g.D.Disk.known in let old = known c.args.disk.now in
    begun old old.seen (IsOnTheWay old.seen c.args.header.now) (c.requires t) (inl refl)

pub begin_anew-requires-clause-first : goal.begin_anew-requires-clause-first
begin_anew-requires-clause-first g c =
    first_of_image c.args.header.now c.as_slice.result.now (c.as_slice.ensures ∙ c.in-Ok.ensures.bytes)

pub returns-in-Ok-begin_anew-clause-any_moment : goal.returns-in-Ok-begin_anew-clause-any_moment
returns-in-Ok-begin_anew-clause-any_moment g c t =
    let known = g.D.Disk.known in let old = known c.args.disk.now in let begun = c.as_slice.result.now
    in let head = c.args.header.now in
    weaker old (known c.begin_anew.new.disk) (IsAnew old.seen begun) (IsOnTheWay old.seen head)
    (c.in-Ok-begin_anew.ensures.any_moment t)
    (on_the_way old.seen begun head (c.as_slice.ensures ∙ c.in-Ok.ensures.bytes))

pub returns-clause-any_moment : goal.returns-clause-any_moment
returns-clause-any_moment g c t =
    let known = g.D.Disk.known in let old = known c.args.disk.now in let begun = c.as_slice.result.now
    in let head = c.args.header.now in
    weaker old (known c.begin_anew.new.disk) (IsAnew old.seen begun) (IsOnTheWay old.seen head)
    (c.in-Err.ensures.any_moment t)
    (on_the_way old.seen begun head (c.as_slice.ensures ∙ c.in-Ok.ensures.bytes))
