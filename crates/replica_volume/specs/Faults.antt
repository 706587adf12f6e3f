-- The faults of opening and compacting a volume where an image was not put in place.
use Rattle.disks.specs.declared.fault.CompactFault.{CompactFault}
use Rattle.disks.specs.declared.fault.CompactFault.TheVariants as compact
use Rattle.disks.specs.declared.fault.OpenFault.{OpenFault}
use Rattle.disks.specs.declared.fault.OpenFault.TheVariants as opening
use Rattle.replica_volume.specs.declared.placing.PlaceFault.{PlaceFault}
use Rattle.replica_volume.specs.declared.placing.PlaceFault.TheVariants as place

abbrev pub fault_placing : PlaceFault → OpenFault
fault_placing place.Disk = opening.Disk
fault_placing place.Memory = opening.Memory

abbrev pub fault_compacting : PlaceFault → CompactFault
fault_compacting place.Disk = compact.Disk
fault_compacting place.Memory = compact.Memory
