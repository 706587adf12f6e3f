use Rattle.std.proofs.Common.{◌≡◌, ◌-◌, ◌≤◌, IsTrue, length, take}
use Rattle.disk_model.specs.Disk.{IsCrashImage}
use Rattle.disk_model.specs.Moments.{LeavesOnly}
use Rattle.disk_model.specs.Counts.{called, pieces}
use Rattle.disk_model.proofs.Counts.{IsPieceEnd}
use Rattle.disk_model.proofs.synced.fill.Given as goal

abbrev pub invariant-loop-at : goal.invariant-loop-at
invariant-loop-at g l = record {
  in_range : l.at ≤ length l.into;
  so_far : IsTrue g.D.Disk.tells → take l.at l.into ≡ take l.at (g.D.Disk.known l.disk).seen;
  seen : IsTrue g.D.Disk.tells → (g.D.Disk.known l.disk).seen ≡ (g.D.Disk.known l.initial.disk).seen;
  now : IsTrue g.D.Disk.tells → (g.D.Disk.known l.disk).now ≡ (g.D.Disk.known l.initial.disk).now;
  beside : IsTrue g.D.Disk.tells → (g.D.Disk.known l.disk).beside ≡ (g.D.Disk.known l.initial.disk).beside;
  any_moment : IsTrue g.D.Disk.tells
      → LeavesOnly (g.D.Disk.known l.initial.disk) (g.D.Disk.known l.disk)
      (IsCrashImage (g.D.Disk.known l.initial.disk).now);
  whole : IsPieceEnd (length l.into) l.at;
  made : (g.D.Disk.known l.disk).made ≡ called (pieces l.at) (g.D.Disk.known l.initial.disk).made;
  later : (g.D.Disk.known l.initial.disk).faults ≤ (g.D.Disk.known l.disk).faults;
}

abbrev pub decreases-loop-at : goal.decreases-loop-at
decreases-loop-at g l = length l.initial.into - l.at
