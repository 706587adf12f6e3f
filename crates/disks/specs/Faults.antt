-- The fault of a compaction that could not read the store.
use Rattle.disks.specs.declared.fault.CompactFault.{CompactFault}
use Rattle.disks.specs.declared.fault.CompactFault.TheVariants as compact
use Rattle.disks.specs.declared.fault.OpenFault.{OpenFault}
use Rattle.disks.specs.declared.fault.OpenFault.TheVariants as opening
use Rattle.disks.specs.declared.name.DiskName.TheVariants.{Root}

-- a root that is empty by now is damaged at its first byte
abbrev pub fault_reading : OpenFault → CompactFault
fault_reading opening.Blank = compact.Damaged Root 0
fault_reading (opening.Damaged disk place) = compact.Damaged disk place
fault_reading opening.Disk = compact.Disk
fault_reading opening.Memory = compact.Memory
