-- Three disks that are held together, and the one that calls go to.
use Rattle.std.specs.Prelude.{◌≡◌, ℕ, ◌-◌, ◌^◌, min, map}
use Rattle.disk_model.specs.Device.{File, Device, file_of}
use Rattle.disks.specs.declared.name.DiskName.{DiskName}
use Rattle.disks.specs.declared.trio.Trio.{Trio}
use Rattle.disks.specs.declared.three.Disks.{Disks}
use Rattle.disks.specs.Trio.{pick, each, total}
use Rattle.disks.specs.Joint.{Devices, now_of}

-- the file of each
abbrev pub files_of : {D : Type 0} → (D → Device) → Trio D → Trio File
files_of known trio = each (λ d. file_of (known d)) trio

-- the calls that the three were given together, as far as a u64 counts
abbrev pub made_by : {D : Type 0} → (D → Device) → Trio D → ℕ
made_by known trio = min (total (each (λ d. (known d).made) trio)) (2 ^ 64 - 1)

-- how often the three failed together
abbrev pub faults_of : {D : Type 0} → (D → Device) → Trio D → ℕ
faults_of known trio = total (each (λ d. (known d).faults) trio)

-- the disk of this name
abbrev pub disk_of : {D : Type 0} → Disks D → DiskName → D
disk_of disks name = pick name disks.trio

-- the disk that calls go to
abbrev pub turned_to : {D : Type 0} → Disks D → DiskName
turned_to disks = disks.name

-- the same disks at the same moment, turned to this one
abbrev pub turned : {D : Type 0} → DiskName → Disks D → Disks D
turned name disks = record disks { name = name }

-- What is known of the three together. Each earlier moment is noted with the three disks as they stood then.
abbrev pub disks_known : {D : Type 0} → (D → Device) → Disks D → Devices
disks_known known disks =
    record {
      files = files_of known disks.trio;
      past = map (λ trio. now_of (files_of known trio)) disks.history.states;
      made = made_by known disks.trio;
      faults = faults_of known disks.trio;
    }
