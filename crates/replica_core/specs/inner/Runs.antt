-- Beside specs/Runs: words of private contracts and of proofs.
use Rattle.std.specs.Prelude.{Option, Some, None, Result, Ok, Err}
use Rattle.replica_core.specs.declared.fault.CommitFault.{CommitFault}
use Rattle.replica_core.specs.declared.fault.CommitFault.TheVariants as commit
use Rattle.replica_core.specs.declared.list.CallFault.{CallFault}
use Rattle.replica_core.specs.declared.list.CallFault.TheVariants.{Refused, Full, Disk, Memory}

-- a fault of a call, without what it says of its refusal
abbrev pub call_fault : Option CommitFault → CallFault
call_fault None = Refused
call_fault (Some (commit.Full need limit)) = Full need limit
call_fault (Some commit.Disk) = Disk
call_fault (Some commit.Memory) = Memory

-- an end without what the call answered
abbrev pub bare_end : {A F : Type 0} → (F → Option CommitFault) → Result A F → Result (Unit {0}) CallFault
bare_end failure (Ok answer) = Ok tt
bare_end failure (Err fault) = Err (call_fault (failure fault))
