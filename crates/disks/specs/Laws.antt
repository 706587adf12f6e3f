-- What holds of three disks, whatever they are.
use Rattle.std.specs.Prelude.{◌≡◌, ℕ, ◌<◌, ◌≤◌, Bool, true, List, ◌++◌, length}
use Rattle.disk_model.specs.Moments.{LeavesOnly}
use Rattle.disks.specs.declared.name.DiskName.{DiskName}
use Rattle.disks.specs.declared.trio.Trio.{Trio}
use Rattle.disks.specs.Joint.{JointMoment, AreCrashImages, AreSettled, Devices, seen_of, now_of, moment_at, facing}
use Rattle.disks.specs.Moments.{LeavesTogether, ChangedOnly, SameElsewhere}

-- where all three are settled a crash leaves just what the reads give
abbrev pub SettledLeaveReads : Type 0
SettledLeaveReads =
    (devices : Devices) → AreSettled devices.files
    → (images : Trio (List ℕ)) → AreCrashImages (now_of devices.files) images → images ≡ seen_of devices.files

-- a moment that was reached is the same for ever, whatever moments come after it, and now is the one after them all
pub record MomentsStay : Type 0 where
  pub earlier : (old new : Devices) (fresh : List JointMoment) → new.past ≡ old.past ++ fresh
      → (k : ℕ) → k < length old.past → moment_at new k ≡ moment_at old k
  pub last : (devices : Devices) → moment_at devices (length devices.past) ≡ now_of devices.files

-- calls that were made of one disk: they went to it, the files of the other two are what they were, and a crash at any
-- moment leaves of this disk what passes the test, and of the other two what it might leave before
pub record MovesOne (name to : DiskName) (old new : Devices) (test : List ℕ → Bool) : Type 0 where
  pub stays : to ≡ name
  pub others : SameElsewhere name old.files new.files
  pub leaves : LeavesTogether old new (ChangedOnly name (λ image. test image ≡ true) (now_of old.files))

-- what is said of calls on one disk, with the other two beside it, says of the three
abbrev pub OneDiskMoves : Type 0
OneDiskMoves =
    (name to : DiskName) (old new : Devices) (test : List ℕ → Bool)
    → LeavesOnly (facing name old) (facing to new) (λ image. test image ≡ true) → MovesOne name to old new test

-- what was said of a crash at any moment of a run holds at the k-th moment, from the one on at which the run began
abbrev pub EachMoment : Type 0
EachMoment =
    (old new : Devices) (test : Trio (List ℕ) → Bool) → LeavesTogether old new (λ images. test images ≡ true)
    → (k : ℕ) → length old.past ≤ k
    → (images : Trio (List ℕ)) → AreCrashImages (moment_at new k) images → test images ≡ true
