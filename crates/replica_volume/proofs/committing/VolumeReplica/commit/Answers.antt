-- Memory ran out, or the volume was made ready and the step written.
use Rattle.std.proofs.Common.{[], ◌∷◌, Some, inl, refl}
use Rattle.replica_core.specs.Replica.{MayStand, may_be_written, stored_in}
use Rattle.replica_state.specs.Steps.{step_of}
use Rattle.replica_volume.specs.Volume.{volume_known}
use Rattle.replica_volume.proofs.Committed.{quiet, quiet_adds, quiet_history, quiet_open}
use Rattle.replica_volume.proofs.committing.VolumeReplica.commit.Goals as goal

pub returns-in_err-ready-clause-any_moment : goal.returns-in_err-ready-clause-any_moment
returns-in_err-ready-clause-any_moment g c =
    let known = g.D.Disk.known in let old = c.args.self.now in let mid = c.make_ready.new.self in
    quiet_adds g.D.Disk.tells known old mid (quiet known old mid c.make_ready.ensures.same) c.requires.ready
    (MayStand (stored_in (volume_known g.D.Disk.tells known old)) (Some (step_of c.args.step))
    (may_be_written c.from_residual.result)) (inl refl)

pub returns-in_err-ready-clause-any_history : goal.returns-in_err-ready-clause-any_history
returns-in_err-ready-clause-any_history g c =
    let known = g.D.Disk.known in let old = c.args.self.now in let mid = c.make_ready.new.self in
    quiet_history g.D.Disk.tells known old mid (quiet known old mid c.make_ready.ensures.same) c.requires.ready
    (step_of c.args.step ∷ [])

pub write-requires-clause-open : goal.write-requires-clause-open
write-requires-clause-open g c =
    let known = g.D.Disk.known in let old = c.args.self.now in let mid = c.make_ready.new.self in
    quiet_open g.D.Disk.tells known old mid (quiet known old mid c.make_ready.ensures.same) c.requires.ready

pub returns-clause-ok : goal.returns-clause-ok
returns-clause-ok g c =
    (c.write.ensures c.args.self.now c.args.step c.make_ready.ensures.same c.requires.ready
    c.in_ok-ready.ensures.step).ok

pub returns-clause-cause : goal.returns-clause-cause
returns-clause-cause g c =
    (c.write.ensures c.args.self.now c.args.step c.make_ready.ensures.same c.requires.ready
    c.in_ok-ready.ensures.step).cause

pub returns-clause-too_long : goal.returns-clause-too_long
returns-clause-too_long g c =
    (c.write.ensures c.args.self.now c.args.step c.make_ready.ensures.same c.requires.ready
    c.in_ok-ready.ensures.step).too_long

pub returns-clause-state : goal.returns-clause-state
returns-clause-state g c =
    (c.write.ensures c.args.self.now c.args.step c.make_ready.ensures.same c.requires.ready
    c.in_ok-ready.ensures.step).state

pub returns-clause-left : goal.returns-clause-left
returns-clause-left g c =
    (c.write.ensures c.args.self.now c.args.step c.make_ready.ensures.same c.requires.ready
    c.in_ok-ready.ensures.step).left

pub returns-clause-any_moment : goal.returns-clause-any_moment
returns-clause-any_moment g c =
    (c.write.ensures c.args.self.now c.args.step c.make_ready.ensures.same c.requires.ready
    c.in_ok-ready.ensures.step).any_moment

pub returns-clause-limit : goal.returns-clause-limit
returns-clause-limit g c =
    (c.write.ensures c.args.self.now c.args.step c.make_ready.ensures.same c.requires.ready
    c.in_ok-ready.ensures.step).limit

pub returns-clause-later : goal.returns-clause-later
returns-clause-later g c =
    (c.write.ensures c.args.self.now c.args.step c.make_ready.ensures.same c.requires.ready
    c.in_ok-ready.ensures.step).later

pub returns-clause-calls : goal.returns-clause-calls
returns-clause-calls g c =
    (c.write.ensures c.args.self.now c.args.step c.make_ready.ensures.same c.requires.ready
    c.in_ok-ready.ensures.step).calls

pub returns-clause-most_calls : goal.returns-clause-most_calls
returns-clause-most_calls g c =
    (c.write.ensures c.args.self.now c.args.step c.make_ready.ensures.same c.requires.ready
    c.in_ok-ready.ensures.step).most_calls

pub returns-clause-untouched : goal.returns-clause-untouched
returns-clause-untouched g c =
    (c.write.ensures c.args.self.now c.args.step c.make_ready.ensures.same c.requires.ready
    c.in_ok-ready.ensures.step).untouched

pub returns-clause-need : goal.returns-clause-need
returns-clause-need g c =
    (c.write.ensures c.args.self.now c.args.step c.make_ready.ensures.same c.requires.ready
    c.in_ok-ready.ensures.step).need

pub returns-clause-history : goal.returns-clause-history
returns-clause-history g c =
    (c.write.ensures c.args.self.now c.args.step c.make_ready.ensures.same c.requires.ready
    c.in_ok-ready.ensures.step).history

pub returns-clause-any_history : goal.returns-clause-any_history
returns-clause-any_history g c =
    (c.write.ensures c.args.self.now c.args.step c.make_ready.ensures.same c.requires.ready
    c.in_ok-ready.ensures.step).any_history
