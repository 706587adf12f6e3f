-- Words of private functions: a command over a store that is open.
use Rattle.std.specs.Prelude.{◌≡◌, ◌≢◌, ℕ, true, List, Option, Result, Ok, Err}
use Rattle.u1_base.specs.Causes.{Rose}
use Rattle.cli_words.specs.declared.command.Command.{Command}
use Rattle.cli_words.specs.declared.command.Command.TheVariants.{Compact}
use Rattle.conflicts.specs.State.{Text}
use Rattle.link.specs.Streams.{Output, Takes}
use Rattle.outside.specs.Known.{LeavesPeers, OutsideKnown}
use Rattle.replica_state.specs.Held.{Lists}
use Rattle.replica_core.specs.Replica.{Found as Left, Known, Stored}
use Rattle.command_lines.specs.Endings.{Ending, Finished, ending_of}
use Rattle.command_lines.specs.declared.outcome.Outcome.{Outcome}
use Rattle.command_lines.specs.declared.outcome.Outcome.TheVariants.{DiskFault}
use Rattle.disks.specs.declared.fault.Sizes.{Sizes}
use Rattle.store_commands.specs.Answer.{due_of, exprs_given, most_input, reads_input, takes}
use Rattle.store_commands.specs.Compacting.{ComesTo, Image}
use Rattle.store_commands.specs.Deeds.{Answer, compacts_as, does, go_on}
use Rattle.store_commands.specs.Expressions.{HaveRead}
use Rattle.store_commands.specs.Found.{Found, Stands, Store, opened_as, standing_in}
use Rattle.store_commands.specs.Leaves.{Does, IsRead}
use Rattle.store_commands.specs.Prints.{PutsPart}
use Rattle.store_commands.specs.Run.{Decides, LeavesUntouched, Seen}

-- where it was decided as done the text was printed, else nothing yet
abbrev pub AnswersBy : List ℕ → Output → Output → Outcome → Ending → Result (Unit {0}) Outcome → Type 0
AnswersBy text before after decided Finished result = PutsPart text before after result
AnswersBy text before after decided _ result = (result ≡ Err decided) × (after ≡ before)

abbrev pub Answers : List ℕ → Output → Output → Outcome → Result (Unit {0}) Outcome → Type 0
Answers text before after decided result = AnswersBy text before after decided (ending_of decided) result

-- what an open replica is found as
abbrev pub found_open : Known → Found
found_open known = Stands (standing_in known)

-- a command, from the opening of its store on, but for its last line
pub record Carried (command : Command) (seed : ℕ) (before after : Seen) (result : Result (Unit {0}) Outcome)
    : Type 0 where
  pub decided : Outcome
  pub a : Answer
  pub decides : Decides command seed before after a decided
  pub untouched : LeavesUntouched command before after
  pub peers : LeavesPeers before.outside after.outside
  pub answers : Answers a.text before.outside.output after.outside.output decided result

-- a command over a store that is what it wants; but where a disk failed `stays` holds
pub record InStore (command : Command) (seed : ℕ) (stays : Type 0) (found : Found) (lists : Lists)
    (image_before image_after : Option Image) (before after : Store) (outside_before outside_after : OutsideKnown)
    (result : Result (Unit {0}) Outcome) : Type 0 where
  pub decided : Outcome
  pub exprs : Result (List Text) Outcome
  pub exprs_read : HaveRead (exprs_given command) exprs
  pub sizes : Result Sizes Outcome
  pub compacted : command ≡ Compact → ComesTo sizes image_before image_after
  pub given : List ℕ
  pub read : List ℕ
  pub a : Answer
  pub is : a ≡ go_on (takes (reads_input command) given) (λ content. does seed exprs sizes command lists content)
  pub store : Does found true a
      ((reads_input command ≡ true) × Rose outside_before.input.faults outside_after.input.faults) before after decided
  pub ready : decided ≢ DiskFault → stays
  pub input : Takes most_input given read outside_before.input outside_after.input
  pub is_read : IsRead (due_of (Ok lists) (reads_input command) given) read decided
  pub peers : LeavesPeers outside_before outside_after
  pub answers : Answers a.text outside_before.output outside_after.output decided result

-- a command over an open replica, that answers this
module _ {R : Type 0} (known : R → Known) (is_open : R → Type 0) (crash : R → ℕ → Left Stored → Type 0) where
  pub record Carries (a : Answer) (old new : R) (out_before out_after : Output)
      (result : Result (Unit {0}) Outcome) : Type 0 where
    pub decided : Outcome
    pub ready : decided ≢ DiskFault → is_open new
    pub does : Does (found_open (known old)) true a ⊥
        (opened_as (known old) (crash old)) (opened_as (known new) (crash new)) decided
    pub answers : Answers a.text out_before out_after decided result

-- ---- compacting a store

module _ {O : Type 0} (known : O → Known) (is_open : O → Type 0) (crash : O → ℕ → Left Stored → Type 0)
    (image : O → Option Image) where
  pub record CarriesCompacting (old new : O) (out_before out_after : Output)
      (result : Result (Unit {0}) Outcome) : Type 0 where
    pub sizes : Result Sizes Outcome
    pub comes : ComesTo sizes (image old) (image new)
    pub carries : Carries known is_open crash (compacts_as sizes) old new out_before out_after result

-- ---- making a store
