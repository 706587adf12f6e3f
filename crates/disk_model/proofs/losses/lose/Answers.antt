-- A write that was torn leads from an image to an image.
use Rattle.std.proofs.Common.{ℕ, List, OnOk, subst, sym}
use Rattle.std.proofs.lemmas.Result.{on_ok_weaker}
use Rattle.disk_model.specs.Disk.{Unsynced, IsCrashImage, Torn, wrote}
use Rattle.disk_model.specs.Log.{step}
use Rattle.disk_model.specs.declared.calls.Call.{Call}
use Rattle.disk_model.proofs.Images.{image_torn}
use Rattle.disk_model.proofs.losses.lose.Goals as goal

pub returns-in-Write-clause-may_be : goal.returns-in-Write-clause-may_be
returns-in-Write-clause-may_be c =
    let old = c.args.image.now.items in let new = c.tear.new.image.items in
    let family : Call → Type 0 = λ call. OnOk c.tear.result
    ((u : Unsynced) (after : List ℕ) → IsCrashImage u old → IsCrashImage (step call after u) new) in
    let torn : Torn c.in-Write.at c.in-Write.size old new → (u : Unsynced) (after : List ℕ) → IsCrashImage u old
    → IsCrashImage (wrote c.in-Write.at c.in-Write.size u) new =
    λ t u after i. image_torn u c.in-Write.at c.in-Write.size old new i t in
    subst family (sym c.in-Write.is) (on_ok_weaker c.tear.result torn c.tear.ensures.torn)
