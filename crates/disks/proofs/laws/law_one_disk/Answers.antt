use Rattle.std.proofs.Common.{◌≡◌, ℕ, List, true}
use Rattle.disks.proofs.Bridge.{joint, keeps_name, keeps_others}
use Rattle.disks.proofs.laws.law_one_disk.Goals as goal

pub returns : goal.returns
returns c name to old new test run = record {
  stays = keeps_name name to old new run.kept;
  others = keeps_others name to old new run.kept;
  leaves = joint name to old new (λ (image : List ℕ). test image ≡ true) run;
}
