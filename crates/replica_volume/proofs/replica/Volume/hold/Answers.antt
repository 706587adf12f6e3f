-- The step was made, or its body was not staged.
use Rattle.std.proofs.Common.{refl, ◌∙◌, ap}
use Rattle.record_codec.specs.Bodies.{step_in}
use Rattle.replica_state.specs.Steps.{step_of}
use Rattle.replica_volume.specs.inner.Committing.{opened_behind}
use Rattle.replica_volume.proofs.Committed.{not_taken, same_takes, still_opened, taken}
use Rattle.replica_volume.proofs.replica.Volume.hold.Goals as goal

pub returns-in-Ok : goal.returns-in-Ok
returns-in-Ok g c old step same of =
    let known = g.D.Disk.known in let tells = g.D.Disk.tells in let mid = c.args.self.now in
    let made = record mid {
      staged = c.stage.new.entries;
      uids = c.make.new.self.uids;
      state = c.make.new.self.state;
    } in
    same_takes tells known old c.make.new.self made (step_of step) _ c.make.ensures.same
    (taken tells known old mid same c.as_slice.result.now (step_of step) c.args.ready.encoded.added
    (ap (step_in mid.uids.uids) c.as_slice.ensures ∙ of.says) (c.as_slice.ensures ∙ of.body) of.added made
    refl refl refl refl c.make.ensures.uids (c.make.ensures.step step of.parts) c.in-Ok.ensures.spelled
    c.in-Ok.ensures.length c.in-Ok.ensures.within (λ h. absurd (cc (c.in-Ok.ensures.full h))))

pub returns-in-Err : goal.returns-in-Err
returns-in-Err g c old step same of =
    let known = g.D.Disk.known in let tells = g.D.Disk.tells in let mid = c.args.self.now in
    let why = c.in-Err.fault in
    let left = record mid { staged = c.stage.new.entries; «open» = opened_behind why mid.«open» } in
    rw (c.leave_off.ensures.fault)
    (same_takes tells known old c.leave_off.new.self left (step_of step) _ c.leave_off.ensures.stays
    (not_taken tells known old mid same c.as_slice.result.now (step_of step) c.args.ready.encoded.added
    (ap (step_in mid.uids.uids) c.as_slice.ensures ∙ of.says) (c.as_slice.ensures ∙ of.body) of.added left
    refl refl refl (still_opened why mid.«open» c.in-Err.ensures.no_disk) why c.in-Err.ensures.same refl refl
    c.in-Err.ensures.full c.in-Err.ensures.only_full c.in-Err.ensures.no_disk))
