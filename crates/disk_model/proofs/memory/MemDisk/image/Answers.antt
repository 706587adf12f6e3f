-- The image of the calls up to the moment.
use Rattle.std.proofs.Common.{ℕ, List, take, drop, subst, sym, arith, IfOk}
use Rattle.disk_model.specs.Disk.{Unsynced, IsCrashImage, settled}
use Rattle.disk_model.specs.Log.{before, now_of}
use Rattle.disk_model.specs.declared.calls.Call.{Call}
use Rattle.disk_model.proofs.Histories.{length-moments, lost_at-past}
use Rattle.disk_model.proofs.memory.MemDisk.image.Goals as goal

pub image_at-requires : goal.image_at-requires
image_at-requires c =
    let log = c.args.self.now.log.items in let bytes = c.args.self.now.bytes.items in
    omega (
      arith,
      c.requires,
      length-moments (settled (before log bytes)) log bytes,
      c.deref.ensures.len,
      c.deref.ensures.value,
      c.args.self.now.log.ok.0,
    )

pub returns-clause-may_be : goal.returns-clause-may_be
returns-clause-may_be c =
    let log = c.args.self.now.log.items in let bytes = c.args.self.now.bytes.items in let k = c.args.moment in
    subst (λ (u : Unsynced). IfOk c.image_at.result (λ image. IsCrashImage u image))
    (sym (lost_at-past log bytes k (omega (arith, c.requires, length-moments (settled (before log bytes)) log bytes))))
    (subst (λ (f : List ℕ). IfOk c.image_at.result
    (λ image. IsCrashImage (now_of (take k log) (before (drop k log) f)) image)) c.deref-2.ensures.value
    (subst (λ (l : List Call). IfOk c.image_at.result
    (λ image. IsCrashImage (now_of (take k l) (before (drop k l) c.deref-2.result.now)) image)) c.deref.ensures.value
    c.image_at.ensures.may_be))
