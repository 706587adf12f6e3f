-- What a crash at any moment of a run of calls may leave of the three disks.
use Rattle.std.specs.Prelude.{◌≡◌, ◌≢◌, ℕ, List, [], ◌∷◌, ◌++◌}
use Rattle.disk_model.specs.Disk.{IsCrashImage}
use Rattle.disk_model.specs.Device.{File}
use Rattle.disks.specs.declared.name.DiskName.{DiskName}
use Rattle.disks.specs.declared.trio.Trio.{Trio}
use Rattle.disks.specs.Trio.{pick}
use Rattle.disks.specs.Joint.{JointMoment, AreCrashImages, Devices, now_of}

-- whatever a crash at each of these moments leaves has Q
abbrev pub AtEach : (Trio (List ℕ) → Type 0) → List JointMoment → Type 0
AtEach Q [] = Unit {0}
AtEach Q (m ∷ ms) = ((images : Trio (List ℕ)) → AreCrashImages m images → Q images) × AtEach Q ms

-- A crash at any moment since old, that one and now among them, leaves three images that have Q together. The earlier
-- moments stay what they were.
pub record LeavesTogether (old new : Devices) (Q : Trio (List ℕ) → Type 0) : Type 0 where
  pub fresh : List JointMoment
  pub added : new.past ≡ old.past ++ fresh
  pub each : AtEach Q fresh
  pub here : (images : Trio (List ℕ)) → AreCrashImages (now_of new.files) images → Q images

-- the image of the disk of this name has P, and those of the other two are such as this moment may leave
pub record ChangedOnly (name : DiskName) (P : List ℕ → Type 0) (moment : JointMoment)
    (images : Trio (List ℕ)) : Type 0 where
  pub there : P (pick name images)
  pub elsewhere : (other : DiskName) → other ≢ name → IsCrashImage (pick other moment) (pick other images)

-- no file but that of this disk has changed: the others read as before, and a crash may leave of them what it might
-- before
abbrev pub SameElsewhere : DiskName → Trio File → Trio File → Type 0
SameElsewhere name old new = (other : DiskName) → other ≢ name → pick other new ≡ pick other old
