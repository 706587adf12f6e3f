use Rattle.std.proofs.Common.{◌≡◌, take, drop}
use Rattle.disk_model.specs.Disk.{IsCrashImage, settled}
use Rattle.disk_model.specs.Log.{before, reached, through}
use Rattle.disk_model.specs.Losses.{lost}
use Rattle.disk_model.proofs.losses.lose_all.Given as goal

abbrev pub invariant-loop-call : goal.invariant-loop-call
invariant-loop-call l = record {
  may_be : IsCrashImage (reached (settled (before l.calls l.file)) (take l.call-index l.calls)
      (before (drop l.call-index l.calls) l.file)) l.image.items;
  by_choice : l.image.items ≡ through (lost l.choice l.file) (before l.calls l.file) (take l.call-index l.calls)
      (before (drop l.call-index l.calls) l.file);
}
