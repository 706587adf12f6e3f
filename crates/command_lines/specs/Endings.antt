-- How a run ends, in kinds. Outcomes of one kind leave the same of the store, of the input and of the output.
use Rattle.std.specs.Prelude.{ℕ}
use Rattle.command_lines.specs.declared.outcome.Outcome.{Outcome}
use Rattle.command_lines.specs.declared.outcome.Outcome.TheVariants.{Done, StoreFull, DiskFault, SourceFault, SinkFault}
use Rattle.command_lines.specs.declared.outcome.Outcome.TheVariants.{LinkFault, AcceptFault, Memory}

-- All is done; or the answer is another outcome than Done; or the store is too long for a step, by what it needs and by
-- its limit; or a disk, the input, the output, the link or the door failed; or memory ran out.
pub data Ending : Type 0 where
  Finished : Ending
  Answered : Ending
  TooLong : ℕ → ℕ → Ending
  DiskFailed : Ending
  InputFailed : Ending
  OutputFailed : Ending
  LinkFailed : Ending
  DoorFailed : Ending
  OutOfMemory : Ending

abbrev pub ending_of : Outcome → Ending
ending_of Done = Finished
ending_of (StoreFull need limit) = TooLong need limit
ending_of DiskFault = DiskFailed
ending_of SourceFault = InputFailed
ending_of SinkFault = OutputFailed
ending_of LinkFault = LinkFailed
ending_of AcceptFault = DoorFailed
ending_of Memory = OutOfMemory
ending_of _ = Answered
