-- How a fault of a writing call ends a run.
use Rattle.std.specs.Prelude.{◌≡◌, Option, Some, None}
use Rattle.replica_core.specs.declared.fault.CommitFault.{CommitFault}
use Rattle.replica_core.specs.declared.fault.CommitFault.TheVariants as commit
use Rattle.command_lines.specs.declared.outcome.Outcome.{Outcome}
use Rattle.command_lines.specs.declared.outcome.Outcome.TheVariants.{Refused, StoreFull, DiskFault, Memory}
use Rattle.command_lines.specs.declared.outcome.Refusal.{Refusal}

-- of a commit that failed
abbrev pub commit_end : CommitFault → Outcome
commit_end (commit.Full need limit) = StoreFull need limit
commit_end commit.Disk = DiskFault
commit_end commit.Memory = Memory

-- a fault that is no failure of the commit ends the run as refused, and a failure as what it is
abbrev pub EndsSo : Option CommitFault → Outcome → Type 0
EndsSo None end = (refusal : Refusal) × (end ≡ Refused refusal)
EndsSo (Some fault) end = end ≡ commit_end fault
