-- The faults of the calls: what those of a receipt become, and which are failures of the step.
use Rattle.std.specs.Prelude.{Option, Some, None}
use Rattle.u1_base.specs.Places.{Place}
use Rattle.replica_core.specs.declared.fault.CommitFault.{CommitFault}
use Rattle.replica_core.specs.declared.fault.CommitFault.TheVariants as commit
use Rattle.replica_core.specs.declared.calls.receipts.TakeFault.{TakeFault}
use Rattle.replica_core.specs.declared.calls.receipts.TakeFault.TheVariants as take
use Rattle.sync_exchange.specs.declared.fault.ExchangeFault.{ExchangeFault}
use Rattle.sync_exchange.specs.declared.fault.ExchangeFault.TheVariants as fault

-- a move that goes back is refused with the place that was given and the one that is kept
abbrev pub goes_back : Place → Place → ExchangeFault
goes_back kept given = fault.LogCheck given kept

-- a fault of a receipt, here
abbrev pub exchange_fault : TakeFault → ExchangeFault
exchange_fault (take.LogCheck mine theirs) = goes_back mine theirs
exchange_fault (take.Full need limit) = fault.Full need limit
exchange_fault take.Disk = fault.Disk
exchange_fault take.Memory = fault.Memory

abbrev pub exchange_failure : ExchangeFault → Option CommitFault
exchange_failure (fault.LogCheck asked mine) = None
exchange_failure (fault.Full need limit) = Some (commit.Full need limit)
exchange_failure fault.Disk = Some commit.Disk
exchange_failure fault.Memory = Some commit.Memory
