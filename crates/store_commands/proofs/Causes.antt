-- The cause of an outcome, seen from further out: what the disks and the input did goes on to be so.
use Rattle.std.proofs.Common.{ℕ}
use Rattle.std.specs.Prelude.{Bool}
use Rattle.u1_base.specs.Causes.{Rose}
use Rattle.command_lines.specs.Endings.{Ending, Finished, Answered, TooLong, DiskFailed, InputFailed, OutputFailed}
use Rattle.command_lines.specs.Endings.{LinkFailed, DoorFailed, OutOfMemory}
use Rattle.command_lines.specs.declared.outcome.Outcome.{Outcome}
use Rattle.store_commands.specs.Deeds.{Answer}
use Rattle.store_commands.specs.Found.{Found, Store}
use Rattle.store_commands.specs.Leaves.{Cause}

module _ (found : Found) (opened : Bool) (a : Answer) (unread other : Type 0) (stood reached : ℕ)
    (b c d e : Store) (rose : Rose b.faults c.faults → Rose d.faults e.faults) (read : unread → other)
    (outcome : Outcome) where
  pub cause_seen : (kind : Ending) → Cause found opened a unread stood reached b c outcome kind
      → Cause found opened a other stood reached d e outcome kind
  cause_seen Finished cause = cause
  cause_seen Answered cause = cause
  cause_seen (TooLong need limit) cause = cause
  cause_seen DiskFailed cause = rose cause
  cause_seen InputFailed cause = (read cause.0, cause.1)
  cause_seen OutputFailed cause = cause
  cause_seen LinkFailed cause = cause
  cause_seen DoorFailed cause = cause
  cause_seen OutOfMemory cause = cause
