-- What the runs of a list showed that asked an index: the filter of the live documents that stood when each one ran.
use Rattle.std.specs.Prelude.{◌≡◌, ℕ, Bool, IsTrue, false, List, [], ◌∷◌, map, T, Some, Ok}
use Rattle.std.specs.FinMap.Entries.{is_sorted}
use Rattle.std.specs.Io.KnownBytes.{Appends}
use Rattle.u1_base.specs.Ids.{id_cmp}
use Rattle.cli_words.specs.Words.{command_in}
use Rattle.cli_words.specs.declared.command.Command.{Command}
use Rattle.cli_words.specs.declared.command.Command.TheVariants.{Show}
use Rattle.cli_words.specs.declared.command.Show.TheVariants.{Query, Range, Keys}
use Rattle.command_lines.specs.Lines.{lines_text}
use Rattle.command_lines.specs.declared.outcome.Outcome.{Outcome}
use Rattle.command_lines.specs.declared.outcome.Outcome.TheVariants.{Done}
use Rattle.conflicts.specs.Document.{content_of}
use Rattle.conflicts.specs.State.{State, Text}
use Rattle.index_tables.specs.Documents.{Documents, keys_at}
use Rattle.index_tables.specs.Order.{Key}
use Rattle.query_range.specs.Answers.{AreKeysBy, IsAnswerBy, is_between}
use Rattle.query_range.specs.Patterns.{meets, part_of}
use Rattle.replica_core.specs.Commands.Documents.{document_lines}
use Rattle.replica_core.specs.Commands.Effects.{Keyed, Line}
use Rattle.replica_core.specs.Replica.{Stands}
use Rattle.replica_state.specs.Keyed.{keys_in}
use Rattle.run_lists.specs.Kept.{found_at}
use Rattle.run_lists.specs.Lists.{Asked, Between, RunInTurn}

-- The index of a name, over the documents of a state in the order of their ids: each has the keys of its current
-- content, for the expressions of the index. One that is deleted or not there has none.
pub record IndexOver (s : State) (name : Text) : Type 0 where
  pub exprs : List Text
  pub there : s.index name ≡ Some exprs
  pub documents : Documents
  pub in_order : T (is_sorted id_cmp documents)
  pub keys : (id : Text) → keys_at documents id ≡ keys_in exprs (content_of (s.document id))

-- the lines of a query or a range: the documents that have a wanted key and no others, by their least wanted key and
-- then by id, each once
pub record ShowsDocuments (s : State) (name : Text) (wanted : Key → Bool) (lines : List Line) : Type 0 where
  pub index : IndexOver s name
  pub ids : List Text
  pub filter : IsAnswerBy wanted index.documents ids
  pub are : lines ≡ document_lines s false ids

-- the lines of keys: those of the documents and no others, in order, each once
pub record ShowsKeys (s : State) (name : Text) (lines : List Line) : Type 0 where
  pub index : IndexOver s name
  pub keys : List Key
  pub filter : AreKeysBy index.documents keys
  pub are : lines ≡ map Keyed keys

-- A run printed just lines of which this holds, by the state that stood when it ran. Where contracts cannot see the
-- disks, it is some state.
pub record Showed (tells : Bool) (before after : Between) (Shows : State → List Line → Type 0) : Type 0 where
  pub state : State
  pub limit : ℕ
  pub stood : IsTrue tells → found_at before ≡ Stands (record { state = state; limit = limit })
  pub lines : List Line
  pub printed : Appends before.output.taken after.output.taken (lines_text lines)
  pub shows : Shows state lines

-- what the commands show that ask an index: a query wants the keys that meet its values, a range those between its ends
abbrev pub ShowedBy : Bool → Command → Between → Between → Type 0
ShowedBy tells (Show (Query name values)) before after =
    Showed tells before after (λ s lines. ShowsDocuments s name (meets (map part_of values)) lines)
ShowedBy tells (Show (Range name start end)) before after =
    Showed tells before after (λ s lines. ShowsDocuments s name (is_between start end) lines)
ShowedBy tells (Show (Keys name)) before after = Showed tells before after (λ s lines. ShowsKeys s name lines)
ShowedBy tells _ before after = Unit {0}

-- a run that was done showed what its command shows
abbrev pub AnswersOnce : Bool → Asked → Between → Between → Outcome → Type 0
AnswersOnce tells a before after outcome =
    outcome ≡ Done → (command : Command) → command_in a.words ≡ Ok command → ShowedBy tells command before after

-- and so did each run of the list
abbrev pub AnswersInTurn : (tells : Bool) (list : List Asked) (before after : Between) (os : List Outcome)
    → RunInTurn tells list before after os → Type 0
AnswersInTurn tells [] before after [] x = Unit {0}
AnswersInTurn tells [] before after (o ∷ os) x = Unit {0}
AnswersInTurn tells (a ∷ more) before after [] x = Unit {0}
AnswersInTurn tells (a ∷ more) before after (o ∷ os) x =
    AnswersOnce tells a before x.0 o × AnswersInTurn tells more x.0 after os x.2
