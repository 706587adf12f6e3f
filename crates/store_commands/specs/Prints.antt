-- What is printed.
use Rattle.std.specs.Prelude.{◌≡◌, ◌≢◌, ◌⊎◌, ℕ, ◌≤◌, false, List, [], ◌++◌, Result, Ok, Err}
use Rattle.std.specs.Io.KnownBytes.{Appends}
use Rattle.u1_base.specs.Causes.{Rose}
use Rattle.link.specs.Streams.{AppendsFront, Output}
use Rattle.command_lines.specs.Endings.{Ending, Finished, OutputFailed, OutOfMemory, ending_of}
use Rattle.command_lines.specs.LastLines.{last_line}
use Rattle.command_lines.specs.Puts.{Puts}
use Rattle.command_lines.specs.declared.put.PrintFault.TheVariants as print
use Rattle.command_lines.specs.declared.outcome.Outcome.{Outcome}
use Rattle.command_lines.specs.declared.outcome.Outcome.TheVariants.{Done, SinkFault, Memory}
use Rattle.store_commands.specs.Deeds.{Answer}

-- the command's text, where it is done
abbrev pub done_text : Answer → Ending → List ℕ
done_text a Finished = a.text
done_text a _ = []

-- the command's text and the last line
abbrev pub printed : Answer → Outcome → List ℕ
printed a decided = done_text a (ending_of decided) ++ last_line decided

-- the output took the whole text, and holds nothing back any more
pub record PrintsWhole (text : List ℕ) (before after : Output) : Type 0 where
  pub taken : Appends before.taken after.taken text
  pub handed_on : after.held ≡ false
  pub later : before.faults ≤ after.faults

-- the output failed, and took a front of the text
pub record PrintsFront (text : List ℕ) (before after : Output) : Type 0 where
  pub taken : AppendsFront before.taken after.taken text
  pub later : before.faults ≤ after.faults

-- The whole text was printed, and the run ended as it was decided; or the output failed, or memory ran out. A run that
-- was decided by want of memory never tells of its output: where that failed, all stands that was decided.
abbrev pub Prints : List ℕ → Output → Output → Outcome → Outcome → Type 0
Prints text before after decided result =
    ((result ≡ decided) × PrintsWhole text before after)
    ⊎ ((result ≡ SinkFault) × PrintsFront text before after × Rose before.faults after.faults × (decided ≢ Memory))
    ⊎ ((result ≡ Memory) × PrintsFront text before after)

-- a front of the text was printed, and why not all
abbrev pub PutsFront : List ℕ → Output → Output → Ending → Type 0
PutsFront text before after OutputFailed = Puts text before after (Err print.Sink)
PutsFront text before after OutOfMemory = Puts text before after (Err print.Memory)
PutsFront text before after _ = ⊥

-- printing a part of the text, as a call ends that may go on
abbrev pub PutsPart : List ℕ → Output → Output → Result (Unit {0}) Outcome → Type 0
PutsPart text before after (Ok done) = Puts text before after (Ok tt)
PutsPart text before after (Err outcome) = PutsFront text before after (ending_of outcome)

-- how a run ends that came so far
abbrev pub outcome_of : Result (Unit {0}) Outcome → Outcome
outcome_of (Ok done) = Done
outcome_of (Err outcome) = outcome
