-- The faults of a receipt or a move, as those of a session.
use Rattle.replica_core.specs.declared.calls.receipts.TakeFault.{TakeFault}
use Rattle.replica_core.specs.declared.calls.receipts.TakeFault.TheVariants as take
use Rattle.sync_phases.specs.declared.fault.SyncFault.{SyncFault}
use Rattle.sync_phases.specs.declared.fault.SyncFault.TheVariants.{LogCheck, Full, Disk, Memory}

abbrev pub take_ends : TakeFault → SyncFault
take_ends (take.LogCheck mine theirs) = LogCheck mine theirs
take_ends (take.Full need limit) = Full need limit
take_ends take.Disk = Disk
take_ends take.Memory = Memory
