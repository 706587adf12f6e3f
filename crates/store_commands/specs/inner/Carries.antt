-- Beside specs/Carries: words of private contracts and of proofs.
use Rattle.std.specs.Prelude.{◌≡◌, ℕ, true, List, Result, Ok, Err}
use Rattle.u1_base.specs.Causes.{Rose}
use Rattle.conflicts.specs.State.{Text}
use Rattle.content.specs.Tree.{Tree}
use Rattle.link.specs.Streams.{Input, Output, Takes}
use Rattle.vector_rev.specs.Counts.{Uid}
use Rattle.command_lines.specs.Endings.{Ending, Answered, InputFailed, OutOfMemory, ending_of}
use Rattle.command_lines.specs.Lines.{init_line}
use Rattle.command_lines.specs.Outcomes.{make_end}
use Rattle.command_lines.specs.declared.outcome.Outcome.{Outcome}
use Rattle.disks.specs.declared.fault.MakeFault.{MakeFault}
use Rattle.store_commands.specs.Answer.{most_input, takes}
use Rattle.store_commands.specs.Found.{Store}
use Rattle.store_commands.specs.Prints.{PutsPart}
use Rattle.store_commands.specs.Store.{Makes}

-- a content was read, or why not
abbrev pub TakesNone : Input → Input → Outcome → Ending → Type 0
TakesNone before after outcome Answered =
    (given : List ℕ) × Takes most_input given given before after × (takes true given ≡ Err outcome)
TakesNone before after outcome InputFailed =
    (given : List ℕ) × (read : List ℕ) × Takes most_input given read before after × Rose before.faults after.faults
TakesNone before after outcome OutOfMemory =
    (given : List ℕ) × (read : List ℕ) × Takes most_input given read before after
TakesNone before after outcome _ = ⊥

abbrev pub TakesFor : Input → Input → Result Tree Outcome → Type 0
TakesFor before after (Ok tree) =
    (given : List ℕ) × Takes most_input given given before after × (takes true given ≡ Ok tree)
TakesFor before after (Err outcome) = TakesNone before after outcome (ending_of outcome)

-- where the store was made that is printed, else nothing yet
abbrev pub TellsMade : Text → Uid → Result (Unit {0}) MakeFault → Output → Output → Result (Unit {0}) Outcome → Type 0
TellsMade name uid (Ok done) before after result = PutsPart (init_line name uid) before after result
TellsMade name uid (Err fault) before after result = (result ≡ Err (make_end fault)) × (after ≡ before)

pub record CarriesMaking (name : Text) (uid : Uid) (limit : ℕ) (before after : Store) (out_before out_after : Output)
    (result : Result (Unit {0}) Outcome) : Type 0 where
  pub made : Result (Unit {0}) MakeFault
  pub makes : Makes name uid limit before after made
  pub tells : TellsMade name uid made out_before out_after result
