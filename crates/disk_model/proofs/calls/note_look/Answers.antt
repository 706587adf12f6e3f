-- A call that changes nothing.
use Rattle.std.proofs.Common.{refl}
use Rattle.disk_model.specs.declared.calls.Call.TheVariants.{Look}
use Rattle.disk_model.proofs.Histories.{image-logged, now-logged, past-logged}
use Rattle.disk_model.proofs.calls.note_look.Goals as goal

pub returns-clause-sound : goal.returns-clause-sound
returns-clause-sound c i =
    image-logged c.args.log.now.items c.push.new.self.items Look c.args.file.now c.args.file.now
    c.in_ok-push.ensures.items refl i

pub returns-clause-now : goal.returns-clause-now
returns-clause-now c =
    now-logged c.args.log.now.items c.push.new.self.items Look c.args.file.now c.args.file.now
    c.in_ok-push.ensures.items refl

pub returns-clause-past : goal.returns-clause-past
returns-clause-past c =
    past-logged c.args.log.now.items c.push.new.self.items Look c.args.file.now c.args.file.now
    c.in_ok-push.ensures.items refl
