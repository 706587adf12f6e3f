-- What the top call promises.
use Rattle.std.specs.Prelude.{◌≡◌, ◌⊎◌, ℕ, Bool, true, false, is_ok, List, [], Option, Ok}
use Rattle.u1_base.specs.Causes.{Rose}
use Rattle.cli_words.specs.declared.command.Command.{Command}
use Rattle.cli_words.specs.declared.command.Command.TheVariants.{Compact}
use Rattle.link.specs.Streams.{Input, Takes}
use Rattle.outside.specs.Known.{LeavesPeers, OutsideKnown}
use Rattle.replica_core.specs.Replica.{Found as Left, Stored}
use Rattle.replica_state.specs.Held.{Lists}
use Rattle.command_lines.specs.Endings.{Ending, DiskFailed, OutOfMemory, ending_of}
use Rattle.command_lines.specs.declared.outcome.Outcome.{Outcome}
use Rattle.store_commands.specs.Answer.{Occasion, answer, built, due, exprs_given, is_opened, most_input, opens_for}
use Rattle.store_commands.specs.Answer.{reads_input}
use Rattle.store_commands.specs.Compacting.{ComesTo, Image}
use Rattle.store_commands.specs.Deeds.{Answer, ended}
use Rattle.store_commands.specs.Expressions.{HaveRead}
use Rattle.store_commands.specs.Found.{HasLists, IsTold, IsUntouched, Store}
use Rattle.store_commands.specs.Leaves.{Does, IsRead}
use Rattle.store_commands.specs.Prints.{Prints, printed}

-- the store, its image, where contracts can see it, and the objects outside at a moment
pub record Seen : Type 1 where
  pub store : Store
  pub image : Option Image
  pub outside : OutsideKnown

-- a read failed of an input that was due
abbrev pub IsUnread : Occasion → Input → Input → Type 0
IsUnread o before after =
    ((lists : Lists) × (opens_for o.command o.found o.lists ≡ Ok lists)) × (reads_input o.command ≡ true)
    × Rose before.faults after.faults

-- where a command goes on over what stands, these are its lists
abbrev pub IsListed : Occasion → Type 0
IsListed o = is_opened (opens_for o.command o.found o.lists) ≡ true → HasLists o.found o.lists

-- a run may end before it has an answer where a disk failed or memory ran out
abbrev pub BreaksOff : Ending → Type 0
BreaksOff DiskFailed = Unit {0}
BreaksOff OutOfMemory = Unit {0}
BreaksOff _ = ⊥

-- Either the run has its answer, over what stands; then the store was opened or made where there is the one that the
-- command wants. Or it ended before, with nothing changed and nothing read.
pub record HasAnswer (o : Occasion) (opened : Bool) (a : Answer) : Type 0 where
  pub lists : IsListed o
  pub is : a ≡ answer o
  pub there : opened ≡ is_opened (opens_for o.command o.found o.lists)

pub record HasNone (opened : Bool) (read : List ℕ) (a : Answer) (decided : Outcome) : Type 0 where
  pub broke : BreaksOff (ending_of decided)
  pub is : a ≡ ended decided
  pub closed : opened ≡ false
  pub unread : read ≡ []

abbrev pub IsAnswered : Occasion → Bool → List ℕ → Answer → Outcome → Type 0
IsAnswered o opened read a decided = HasAnswer o opened a ⊎ HasNone opened read a decided

-- How a run is decided: the store was found as something and the input gave some bytes, which are those that are told,
-- where they are told; what a compaction comes to is told of the image before and after; for these this is the answer.
pub record Decides (command : Command) (seed : ℕ) (before after : Seen) (a : Answer) (decided : Outcome) : Type 0 where
  pub o : Occasion
  pub is_command : o.command ≡ command
  pub is_seed : o.seed ≡ seed
  pub exprs_read : HaveRead (exprs_given command) o.exprs
  pub compacted : command ≡ Compact → ComesTo o.sizes before.image after.image
  pub told : IsTold before.store.found o.found
  pub opened : Bool
  pub read : List ℕ
  pub answers : IsAnswered o opened read a decided
  pub does : Does o.found opened a (IsUnread o before.outside.input after.outside.input) before.store after.store decided
  pub takes : Takes most_input o.given read before.outside.input after.outside.input
  pub is_read : IsRead (due o) read decided

-- the store is as it was
pub record IsSame (before after : Store) : Type 0 where
  pub found : after.found ≡ before.found
  pub crash : (k : ℕ) (o : Left Stored) → after.crash k o → before.crash k o
  pub moment : after.moment ≡ before.moment
  pub faults : after.faults ≡ before.faults
  pub bytes : IsUntouched before after

-- nothing is touched for a command that is not built
abbrev pub LeavesUntouched : Command → Seen → Seen → Type 0
LeavesUntouched command before after =
    is_ok (built command) ≡ false
    → IsSame before.store after.store × (after.image ≡ before.image)
    × (after.outside.input ≡ before.outside.input)

-- A run: a decision, and what is printed of it. No command has to do with a peer: none asks the link, and none takes a
-- connection.
pub record Runs (command : Command) (seed : ℕ) (before after : Seen) (result : Outcome) : Type 0 where
  pub decided : Outcome
  pub a : Answer
  pub decides : Decides command seed before after a decided
  pub untouched : LeavesUntouched command before after
  pub peers : LeavesPeers before.outside after.outside
  pub prints : Prints (printed a decided) before.outside.output after.outside.output decided result
