-- What each command answers where nothing fails. Each line cites the definition of the command over one replica.
use Rattle.std.specs.Prelude.{ℕ, Bool, true, false, List, [], ◌∷◌, map, unwrap_or, Option, Result, Ok, Err}
use Rattle.content.specs.Tree.{Tree}
use Rattle.cli_words.specs.declared.command.Command.{Command}
use Rattle.cli_words.specs.declared.command.Command.TheVariants as command
use Rattle.cli_words.specs.declared.command.Edit.{Edit}
use Rattle.cli_words.specs.declared.command.Edit.TheVariants as edit
use Rattle.cli_words.specs.declared.command.Show.{Show}
use Rattle.cli_words.specs.declared.command.Show.TheVariants as show
use Rattle.conflicts.specs.State.{Text}
use Rattle.replica_core.specs.Commands.Documents.{all_effect, conflicts_effect, get_effect}
use Rattle.replica_core.specs.Commands.Edits.{create_effect, delete_effect, put_effect, resolve_effect}
use Rattle.replica_core.specs.Commands.Edits.{resolve_deleted_effect}
use Rattle.replica_core.specs.Commands.Effects.{Effect, Refusal}
use Rattle.replica_core.specs.Commands.Indexes.{index_create_effect, index_delete_effect, index_list_effect}
use Rattle.replica_core.specs.Commands.Indexes.{keys_effect, query_effect, range_effect}
use Rattle.replica_core.specs.Commands.Logs.{changes_effect, info_effect}
use Rattle.replica_state.specs.Held.{Lists, meaning_of}
use Rattle.u1_base.specs.NewId.{new_id_text}
use Rattle.u1_base.specs.declared.limits.TheConstants.{GREATEST_IMAGE_LIMIT}
use Rattle.u1_base.specs.declared.made.IdKind.TheVariants.{Replica}
use Rattle.vector_rev.specs.Counts.{Uid}
use Rattle.command_lines.specs.Lines.{compacted_line, init_line, lines_text}
use Rattle.command_lines.specs.Outcomes.{refusal_end}
use Rattle.command_lines.specs.declared.outcome.Outcome.{Outcome}
use Rattle.command_lines.specs.declared.outcome.Outcome.TheVariants.{Done, Refused}
use Rattle.command_lines.specs.declared.outcome.Refusal.TheVariants.{NotBuilt}
use Rattle.disks.specs.declared.fault.Sizes.{Sizes}
use Rattle.store_commands.specs.Changes.{Change, Made, Stepped}

-- What a run answers where nothing outside fails: how it ends, the changes of the store, whether its image is written
-- anew, and the text that is printed where it is done.
pub record Answer : Type 0 where
  pub outcome : Outcome
  pub changes : List Change
  pub anew : Bool
  pub text : List ℕ

abbrev pub done_with : List Change → List ℕ → Answer
done_with changes text = record { outcome = Done; changes = changes; anew = false; text = text }

-- it is not done: nothing is changed, and nothing is printed but its last line
abbrev pub ended : Outcome → Answer
ended outcome = record { outcome = outcome; changes = []; anew = false; text = [] }

-- one layer after the other: the first that ends the run counts
abbrev pub go_on : {A : Type 0} → Result A Outcome → (A → Answer) → Answer
go_on (Ok a) next = next a
go_on (Err outcome) next = ended outcome

-- ---- init

-- the uid of a replica: the given one, or one that is made of the seed
abbrev pub uid_made : ℕ → Option Uid → Uid
uid_made seed uid = unwrap_or uid (new_id_text seed Replica 0)

-- the limit of a store: the given one, or the greatest
abbrev pub limit_given : Option ℕ → ℕ
limit_given limit = unwrap_or limit GREATEST_IMAGE_LIMIT

abbrev pub init_answer : Text → Uid → ℕ → Answer
init_answer name uid limit = done_with (Made name uid limit ∷ []) (init_line name uid)

-- ---- a command over the replica that stands

abbrev pub over_replica : Result Effect Refusal → Answer
over_replica (Ok effect) = done_with (map Stepped effect.steps) (lines_text effect.lines)
over_replica (Err refusal) = ended (refusal_end refusal)

-- ---- compact

-- it makes no step: the state stays, and the image is another one
abbrev pub compact_answer : Sizes → Answer
compact_answer sizes =
    record { outcome = Done; changes = []; anew = true; text = compacted_line sizes.before sizes.after }

-- by what compacting comes to
abbrev pub compacts_as : Result Sizes Outcome → Answer
compacts_as (Ok sizes) = compact_answer sizes
compacts_as (Err outcome) = ended outcome

-- ---- all of them

-- what the commands that only show give, over the lists of the store
abbrev pub shows : Show → Lists → Answer
shows (show.Get id deleted) l = over_replica (get_effect (meaning_of l) id deleted)
shows (show.Conflicts id) l = over_replica (conflicts_effect (meaning_of l) id)
shows show.IndexList l = over_replica (index_list_effect l)
shows (show.Query name values) l = over_replica (query_effect l name values)
shows (show.Range name start end) l = over_replica (range_effect l name start end)
shows (show.Keys name) l = over_replica (keys_effect l name)
shows (show.All deleted) l = over_replica (all_effect l deleted)
shows (show.Changes generation) l = over_replica (changes_effect (meaning_of l) generation)
shows show.Info l = over_replica (info_effect l)

-- what the commands give that make a step, by the seed, by what their index expressions read as, and by the content
-- that was read
abbrev pub edits : ℕ → Result (List Text) Outcome → Edit → Lists → Tree → Answer
edits seed exprs (edit.Create id) l content = over_replica (create_effect (meaning_of l) seed id content)
edits seed exprs (edit.Put id rev) l content = over_replica (put_effect (meaning_of l) seed id rev content)
edits seed exprs (edit.Delete id rev) l content = over_replica (delete_effect (meaning_of l) seed id rev)
edits seed exprs (edit.Resolve id revs) l content = over_replica (resolve_effect (meaning_of l) seed id revs content)
edits seed exprs (edit.ResolveDeleted id revs) l content = over_replica (resolve_deleted_effect (meaning_of l) seed id revs)
edits seed exprs (edit.IndexCreate name texts) l content =
    go_on exprs (λ canonicals. over_replica (index_create_effect l name canonicals))
edits seed exprs (edit.IndexDelete name) l content = over_replica (index_delete_effect l name)

-- DOES: what each command gives, by the seed, what its index expressions read as, what compacting comes to, the lists
-- of the store, and the content that was read
abbrev pub does : ℕ → Result (List Text) Outcome → Result Sizes Outcome → Command → Lists → Tree → Answer
does seed exprs sizes (command.Init name uid limit) l content =
    init_answer name (uid_made seed uid) (limit_given limit)
does seed exprs sizes (command.Show show) l content = shows show l
does seed exprs sizes (command.Edit edit) l content = edits seed exprs edit l content
does seed exprs sizes command.Compact l content = compacts_as sizes
does seed exprs sizes (command.Online online) l content = ended (Refused NotBuilt)
does seed exprs sizes (command.Work drawn count) l content = ended (Refused NotBuilt)
does seed exprs sizes (command.View view) l content = ended (Refused NotBuilt)
