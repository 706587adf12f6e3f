-- What a run answers where nothing outside fails: the store is opened, the input is taken, and the command does its
-- part.
use Rattle.std.specs.Prelude.{ℕ, ◌+◌, Bool, true, false, ◌&&◌, nat_le, if◌then◌else◌, length, List, [], Option, Some}
use Rattle.std.specs.Prelude.{None, Result, Ok, Err, unwrap_or}
use Rattle.cli_words.specs.declared.command.Command.{Command}
use Rattle.cli_words.specs.declared.command.Command.TheVariants as command
use Rattle.cli_words.specs.declared.command.Edit.{Edit}
use Rattle.cli_words.specs.declared.command.Edit.TheVariants as edit
use Rattle.conflicts.specs.State.{Text}
use Rattle.content.specs.Contents.{most_bytes}
use Rattle.content.specs.Faults.{fault_of}
use Rattle.content.specs.Reading.{content_in}
use Rattle.content.specs.Tree.{Tree, null}
use Rattle.content.specs.declared.fault.ContentFault.{ContentFault}
use Rattle.content.specs.declared.fault.ContentFault.TheVariants.{NotJson}
use Rattle.disks.specs.declared.fault.Sizes.{Sizes}
use Rattle.expr_parser.specs.Limits.{most_exprs}
use Rattle.replica_state.specs.Held.{Lists, no_lists}
use Rattle.u1_base.specs.declared.limits.TheConstants.{GREATEST_IMAGE_LIMIT, LEAST_IMAGE_LIMIT}
use Rattle.command_lines.specs.Outcomes.{content_end}
use Rattle.command_lines.specs.declared.outcome.Outcome.{Outcome}
use Rattle.command_lines.specs.declared.outcome.Outcome.TheVariants as outcome
use Rattle.command_lines.specs.declared.outcome.Refusal.TheVariants as refusal
use Rattle.command_lines.specs.declared.outcome.UsageKind.TheVariants as usage
use Rattle.store_commands.specs.Deeds.{Answer, does, go_on, limit_given}
use Rattle.store_commands.specs.Found.{Found, Blank, Damaged, Stands}

-- What a run meets: its command, what that one's index expressions read as, what compacting comes to, its seed, what
-- its store is found as, the lists of what stands there, and what its input gives.
pub record Occasion : Type 0 where
  pub command : Command
  pub exprs : Result (List Text) Outcome
  pub sizes : Result Sizes Outcome
  pub seed : ℕ
  pub found : Found
  pub lists : Lists
  pub given : List ℕ

-- the most bytes that are read of an input: one more than a content may have
abbrev pub most_input : ℕ
most_input = most_bytes + 1

-- ---- BUILT: a command of a later version is refused, and nothing is touched for it; nor for what is not a command: an
-- index of no expression or of more than eight, and a store of a limit that no store has

abbrev pub has_exprs : List Text → Bool
has_exprs exprs = nat_le 1 (length exprs) && nat_le (length exprs) most_exprs

abbrev pub is_limit : ℕ → Bool
is_limit limit = nat_le LEAST_IMAGE_LIMIT limit && nat_le limit GREATEST_IMAGE_LIMIT

abbrev pub built_edit : Edit → Result (Unit {0}) Outcome
built_edit (edit.IndexCreate name exprs) = if has_exprs exprs then Ok tt else Err (outcome.Usage usage.Words)
built_edit _ = Ok tt

abbrev pub built : Command → Result (Unit {0}) Outcome
built (command.Init name uid limit) = if is_limit (limit_given limit) then Ok tt else Err (outcome.Usage usage.Words)
built (command.Show show) = Ok tt
built (command.Edit edit) = built_edit edit
built command.Compact = Ok tt
built (command.Online online) = Err (outcome.Refused refusal.NotBuilt)
built (command.Work seed count) = Err (outcome.Refused refusal.NotBuilt)
built (command.View view) = Err (outcome.Refused refusal.NotBuilt)

-- the texts of a command's index expressions
abbrev pub exprs_given : Command → List Text
exprs_given (command.Edit (edit.IndexCreate name texts)) = texts
exprs_given _ = []

-- ---- OPENS: a command makes a store where there is none, or opens the one that is there

abbrev pub makes_store : Command → Bool
makes_store (command.Init name uid limit) = true
makes_store _ = false

-- what a command finds in the store that it opened; nothing in the one that it is going to make
abbrev pub opens : Bool → Found → Lists → Result Lists Outcome
opens true Blank lists = Ok (no_lists [] [])
opens true (Damaged disk place) lists = Err (outcome.Refused refusal.DatabaseExists)
opens true (Stands x) lists = Err (outcome.Refused refusal.DatabaseExists)
opens false Blank lists = Err (outcome.Refused refusal.NoDatabase)
opens false (Damaged disk place) lists = Err (outcome.Damaged disk place)
opens false (Stands x) lists = Ok lists

abbrev pub if_built : Result (Unit {0}) Outcome → Result Lists Outcome → Result Lists Outcome
if_built (Ok done) opened = opened
if_built (Err outcome) opened = Err outcome

abbrev pub opens_for : Command → Found → Lists → Result Lists Outcome
opens_for command found lists = if_built (built command) (opens (makes_store command) found lists)

-- the command goes on: there is the store that it wants
abbrev pub is_opened : Result Lists Outcome → Bool
is_opened (Ok lists) = true
is_opened (Err outcome) = false

-- ---- TAKES: a command reads a content, or nothing

abbrev pub takes_content : Edit → Bool
takes_content (edit.Create id) = true
takes_content (edit.Put id rev) = true
takes_content (edit.Delete id rev) = false
takes_content (edit.Resolve id revs) = true
takes_content (edit.ResolveDeleted id revs) = false
takes_content (edit.IndexCreate name exprs) = false
takes_content (edit.IndexDelete name) = false

abbrev pub reads_input : Command → Bool
reads_input (command.Edit edit) = takes_content edit
reads_input _ = false

-- a text without a fault reads as a content, so the fault is always there where it is asked for
abbrev pub content_or_fault : Option Tree → Option ContentFault → Result Tree Outcome
content_or_fault (Some tree) fault = Ok tree
content_or_fault None fault = Err (content_end (unwrap_or fault NotJson))

abbrev pub takes : Bool → List ℕ → Result Tree Outcome
takes true given = content_or_fault (content_in given) (fault_of given)
takes false given = Ok null

-- ---- THE ANSWER: the three, one after the other; the first that refuses counts

abbrev pub answer : Occasion → Answer
answer o =
    go_on (opens_for o.command o.found o.lists)
    (λ lists. go_on (takes (reads_input o.command) o.given)
    (λ content. does o.seed o.exprs o.sizes o.command lists content))

-- the bytes of the input that are read: none where the store is not what the command wants
abbrev pub due_of : Result Lists Outcome → Bool → List ℕ → List ℕ
due_of (Ok lists) true given = given
due_of (Ok lists) false given = []
due_of (Err outcome) reads given = []

abbrev pub due : Occasion → List ℕ
due o = due_of (opens_for o.command o.found o.lists) (reads_input o.command) o.given
