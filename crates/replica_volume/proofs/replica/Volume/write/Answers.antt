-- The step was made, or its body was not added.
use Rattle.std.proofs.Common.{refl, ◌∙◌, ap}
use Rattle.record_codec.specs.Bodies.{step_in}
use Rattle.replica_state.specs.Steps.{step_of}
use Rattle.replica_volume.specs.inner.Committing.{opened_behind}
use Rattle.replica_volume.proofs.Committed.{committed, left_off, same_commits}
use Rattle.replica_volume.proofs.replica.Volume.write.Goals as goal

pub append_on-requires-clause-store : goal.append_on-requires-clause-store
append_on-requires-clause-store g c t = let k = c.requires.«open».keeps t in (2, k.head, k.bodies, k.stands)

pub returns-in-Ok : goal.returns-in-Ok
returns-in-Ok g c old step same is of =
    let known = g.D.Disk.known in let tells = g.D.Disk.tells in let mid = c.args.self.now in
    let made = record mid {
      disks = c.append_on.new.disks;
      journal = c.append_on.new.journal;
      uids = c.make.new.self.uids;
      state = c.make.new.self.state;
    } in
    same_commits tells known old c.make.new.self made (step_of step) _ c.make.ensures.same
    (committed tells known old mid same c.as_slice.result.now (step_of step) c.args.ready.encoded.added
    (ap (step_in mid.uids.uids) c.as_slice.ensures ∙ of.says) (c.as_slice.ensures ∙ of.body) of.added is made
    c.append_on.ensures.any_moment refl refl refl c.make.ensures.uids (c.make.ensures.step step of.parts)
    c.in-Ok.ensures.ok c.in-Ok.ensures.length c.append_on.ensures.limit (λ h. absurd (cc (c.in-Ok.ensures.full h)))
    c.append_on.ensures.cause.later c.in-Ok.ensures.calls c.append_on.ensures.most_calls)

pub returns-in-Err : goal.returns-in-Err
returns-in-Err g c old step same is of =
    let known = g.D.Disk.known in let tells = g.D.Disk.tells in let mid = c.args.self.now in
    let why = c.in-Err.fault in
    let left = record mid {
      disks = c.append_on.new.disks;
      journal = c.append_on.new.journal;
      «open» = opened_behind why mid.«open»;
    } in
    rw (c.leave_off.ensures.fault)
    (same_commits tells known old c.leave_off.new.self left (step_of step) _ c.leave_off.ensures.stays
    (left_off tells known old mid same c.as_slice.result.now (step_of step) c.args.ready.encoded.added
    (ap (step_in mid.uids.uids) c.as_slice.ensures ∙ of.says) (c.as_slice.ensures ∙ of.body) of.added is left
    c.append_on.ensures.any_moment refl refl refl refl c.in-Err.ensures.same why refl
    c.in-Err.ensures.full c.in-Err.ensures.only_full c.in-Err.ensures.untouched c.append_on.ensures.most_calls
    c.in-Err.ensures.cause))
