-- What is known of three disks that share one order of moments, and what a crash may leave of them.
use Rattle.std.specs.Prelude.{ℕ, List, map, slice_index_or}
use Rattle.disk_model.specs.Disk.{Unsynced, IsCrashImage}
use Rattle.disk_model.specs.Device.{File, IsSettled, Moment, Device}
use Rattle.disks.specs.declared.name.DiskName.{DiskName}
use Rattle.disks.specs.declared.trio.Trio.{Trio}
use Rattle.disks.specs.Trio.{pick, others, each}

-- one moment of the three: what a crash may leave of each
abbrev pub JointMoment : Type 0
JointMoment = Trio Unsynced

-- What a crash at this moment may leave: one image of each disk, all three of the same moment.
abbrev pub AreCrashImages : JointMoment → Trio (List ℕ) → Type 0
AreCrashImages moment images = (name : DiskName) → IsCrashImage (pick name moment) (pick name images)

-- What is known of the three: the file of each, their earlier moments in one order, how many calls they were given
-- together, as far as a u64 counts, and how often they failed together.
pub record Devices : Type 0 where
  pub files : Trio File
  pub past : List JointMoment
  pub made : ℕ
  pub faults : ℕ

-- what a read gives of each file
abbrev pub seen_of : Trio File → Trio (List ℕ)
seen_of files = each (λ f. f.seen) files

-- what a crash now may leave of each file
abbrev pub now_of : Trio File → JointMoment
now_of files = each (λ f. f.now) files

-- what a read gives of a file is one of its images
abbrev pub MayStay : File → Type 0
MayStay file = IsCrashImage file.now file.seen

-- a crash leaves of each file just what a read gives
abbrev pub AreSettled : Trio File → Type 0
AreSettled files = (name : DiskName) → IsSettled (pick name files)

-- the k-th moment: an earlier one, or now
abbrev pub moment_at : Devices → ℕ → JointMoment
moment_at devices k = slice_index_or devices.past k (now_of devices.files)

-- a moment, as the disk of this name has it: what is its own, and what lies before and after it
abbrev pub seen_from : DiskName → JointMoment → Moment
seen_from name moment = (pick name moment, others name moment)

-- The three as one disk, whose calls go to the disk of this name.
abbrev pub facing : DiskName → Devices → Device
facing name devices =
    record {
      seen = (pick name devices.files).seen;
      now = (pick name devices.files).now;
      beside = others name devices.files;
      past = map (seen_from name) devices.past;
      made = devices.made;
      faults = devices.faults;
    }
