-- A sync that succeeded.
use Rattle.std.proofs.Common.{refl}
use Rattle.disk_model.specs.declared.calls.Call.TheVariants.{Sync}
use Rattle.disk_model.proofs.Images.{image_settled}
use Rattle.disk_model.proofs.Histories.{image-logged, now-logged, past-logged}
use Rattle.disk_model.proofs.calls.note_sync.Goals as goal

pub returns-clause-sound : goal.returns-clause-sound
returns-clause-sound c i =
    image-logged c.args.log.now.items c.push.new.self.items Sync c.args.file.now c.args.file.now
    c.in_ok-push.ensures.items refl (image_settled c.args.file.now)

pub returns-clause-now : goal.returns-clause-now
returns-clause-now c =
    now-logged c.args.log.now.items c.push.new.self.items Sync c.args.file.now c.args.file.now
    c.in_ok-push.ensures.items refl

pub returns-clause-past : goal.returns-clause-past
returns-clause-past c =
    past-logged c.args.log.now.items c.push.new.self.items Sync c.args.file.now c.args.file.now
    c.in_ok-push.ensures.items refl
