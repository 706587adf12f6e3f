-- Memory ran out, or the volume was made ready and the step staged.
use Rattle.replica_volume.proofs.Committed.{on_err, quiet, quiet_adds_staged, quiet_need, quiet_stages, quiet_stays}
use Rattle.replica_volume.proofs.committing.VolumeReplica.stage.Goals as goal

pub returns-in_err-ready-clause-stays : goal.returns-in_err-ready-clause-stays
returns-in_err-ready-clause-stays g c =
    let known = g.D.Disk.known in let old = c.args.self.now in let mid = c.make_ready.new.self in
    quiet_stays g.D.Disk.tells known old mid (quiet known old mid c.make_ready.ensures.same)

pub returns-in_err-ready-clause-left : goal.returns-in_err-ready-clause-left
returns-in_err-ready-clause-left g c =
    let known = g.D.Disk.known in let old = c.args.self.now in let mid = c.make_ready.new.self in
    on_err c.from_residual.result _
    (quiet_need g.D.Disk.tells known old mid (quiet known old mid c.make_ready.ensures.same))

pub returns-in_err-ready-clause-any_moment : goal.returns-in_err-ready-clause-any_moment
returns-in_err-ready-clause-any_moment g c =
    let known = g.D.Disk.known in let old = c.args.self.now in let mid = c.make_ready.new.self in
    quiet_adds_staged g.D.Disk.tells known old mid (quiet known old mid c.make_ready.ensures.same)

pub returns-in_err-ready-clause-refused : goal.returns-in_err-ready-clause-refused
returns-in_err-ready-clause-refused g c t =
    let known = g.D.Disk.known in let old = c.args.self.now in let mid = c.make_ready.new.self in
    on_err c.from_residual.result _
    (quiet_stages g.D.Disk.tells known old mid (quiet known old mid c.make_ready.ensures.same))

pub returns-clause-ok : goal.returns-clause-ok
returns-clause-ok g c =
    (c.hold.ensures c.args.self.now c.args.step c.make_ready.ensures.same c.in_ok-ready.ensures.step).ok

pub returns-clause-need : goal.returns-clause-need
returns-clause-need g c =
    (c.hold.ensures c.args.self.now c.args.step c.make_ready.ensures.same c.in_ok-ready.ensures.step).need

pub returns-clause-stays : goal.returns-clause-stays
returns-clause-stays g c =
    (c.hold.ensures c.args.self.now c.args.step c.make_ready.ensures.same c.in_ok-ready.ensures.step).stays

pub returns-clause-cause : goal.returns-clause-cause
returns-clause-cause g c =
    (c.hold.ensures c.args.self.now c.args.step c.make_ready.ensures.same c.in_ok-ready.ensures.step).cause

pub returns-clause-no_disk : goal.returns-clause-no_disk
returns-clause-no_disk g c =
    (c.hold.ensures c.args.self.now c.args.step c.make_ready.ensures.same c.in_ok-ready.ensures.step).no_disk

pub returns-clause-too_long : goal.returns-clause-too_long
returns-clause-too_long g c =
    (c.hold.ensures c.args.self.now c.args.step c.make_ready.ensures.same c.in_ok-ready.ensures.step).too_long

pub returns-clause-state : goal.returns-clause-state
returns-clause-state g c =
    (c.hold.ensures c.args.self.now c.args.step c.make_ready.ensures.same c.in_ok-ready.ensures.step).state

pub returns-clause-left : goal.returns-clause-left
returns-clause-left g c =
    (c.hold.ensures c.args.self.now c.args.step c.make_ready.ensures.same c.in_ok-ready.ensures.step).left

pub returns-clause-any_moment : goal.returns-clause-any_moment
returns-clause-any_moment g c =
    (c.hold.ensures c.args.self.now c.args.step c.make_ready.ensures.same c.in_ok-ready.ensures.step).any_moment

pub returns-clause-limit : goal.returns-clause-limit
returns-clause-limit g c =
    (c.hold.ensures c.args.self.now c.args.step c.make_ready.ensures.same c.in_ok-ready.ensures.step).limit

pub returns-clause-untouched : goal.returns-clause-untouched
returns-clause-untouched g c =
    (c.hold.ensures c.args.self.now c.args.step c.make_ready.ensures.same c.in_ok-ready.ensures.step).untouched

pub returns-clause-taken : goal.returns-clause-taken
returns-clause-taken g c =
    (c.hold.ensures c.args.self.now c.args.step c.make_ready.ensures.same c.in_ok-ready.ensures.step).taken

pub returns-clause-refused : goal.returns-clause-refused
returns-clause-refused g c =
    (c.hold.ensures c.args.self.now c.args.step c.make_ready.ensures.same c.in_ok-ready.ensures.step).refused
