-- The changes that a run answers are proper ones for what was found.
use Rattle.std.proofs.Common.{◌≡◌, ℕ, true, false, List, [], Option, Result, Ok, Err, refl}
use Rattle.cli_words.specs.declared.command.Command.{Command}
use Rattle.cli_words.specs.declared.command.Command.TheVariants as command
use Rattle.cli_words.specs.declared.command.Edit.{Edit}
use Rattle.cli_words.specs.declared.command.Edit.TheVariants as edit
use Rattle.cli_words.specs.declared.command.Show.{Show}
use Rattle.cli_words.specs.declared.command.Show.TheVariants as show
use Rattle.command_lines.specs.declared.outcome.Outcome.{Outcome}
use Rattle.conflicts.specs.State.{Text}
use Rattle.content.specs.Tree.{Tree}
use Rattle.disks.specs.declared.fault.Sizes.{Sizes}
use Rattle.replica_core.specs.Commands.Documents.{all_effect, conflicts_effect, get_effect}
use Rattle.replica_core.specs.Commands.Edits.{create_effect, delete_effect, put_effect, resolve_effect}
use Rattle.replica_core.specs.Commands.Edits.{resolve_deleted_effect}
use Rattle.replica_core.specs.Commands.Effects.{Effect, Refusal}
use Rattle.replica_core.specs.Commands.Indexes.{index_create_effect, index_delete_effect, index_list_effect}
use Rattle.replica_core.specs.Commands.Indexes.{keys_effect, query_effect, range_effect}
use Rattle.replica_core.specs.Commands.Logs.{changes_effect, info_effect}
use Rattle.replica_state.specs.Held.{Lists, meaning_of}
use Rattle.store_commands.specs.Answer.{Occasion, answer, built, if_built, makes_store, opens, opens_for, reads_input}
use Rattle.store_commands.specs.Answer.{takes}
use Rattle.store_commands.specs.Changes.{Change}
use Rattle.store_commands.specs.Deeds.{Answer, does, edits, go_on, over_replica, shows}
use Rattle.store_commands.specs.Found.{Blank, Damaged, Found, Stands, in_short}
use Rattle.run_lists.proofs.Proper.{Proper, proper_steps}

-- what holds of no changes, and of those of each way to go on, holds of those of the whole
then_holds : {A : Type 0} (P : List Change → Type 0) (r : Result A Outcome) (next : A → Answer)
    → P [] → ((a : A) → r ≡ Ok a → P (next a).changes) → P (go_on r next).changes
then_holds P (Ok a) next none some = some a refl
then_holds P (Err outcome) next none some = none

-- a command over what stands makes steps
over : (found : Found) (lists opened : Lists) (r : Result Effect Refusal) → opens false found lists ≡ Ok opened
    → Proper (in_short found) (over_replica r).changes
over Blank lists opened r e = absurd (cc e)
over (Damaged disk place) lists opened r e = absurd (cc e)
over (Stands x) lists opened (Ok effect) e = proper_steps (record { state = x.state; limit = x.limit }) effect.steps
over (Stands x) lists opened (Err refusal) e = tt

over_expressions : (found : Found) (lists opened : Lists) (exprs : Result (List Text) Outcome)
    (next : List Text → Result Effect Refusal)
    → opens false found lists ≡ Ok opened
    → Proper (in_short found) (go_on exprs (λ texts. over_replica (next texts))).changes
over_expressions found lists opened (Ok texts) next e = over found lists opened (next texts) e
over_expressions found lists opened (Err outcome) next e = tt

-- and init makes a store where there is none
makes : (found : Found) (lists opened : Lists) (seed : ℕ) (exprs : Result (List Text) Outcome)
    (sizes : Result Sizes Outcome) (name : Text)
    (uid : Option Text) (limit : Option ℕ) (content : Tree)
    → opens true found lists ≡ Ok opened
    → Proper (in_short found) (does seed exprs sizes (command.Init name uid limit) opened content).changes
makes Blank lists opened seed exprs sizes name uid limit content e = (tt, tt)
makes (Damaged disk place) lists opened seed exprs sizes name uid limit content e = absurd (cc e)
makes (Stands x) lists opened seed exprs sizes name uid limit content e = absurd (cc e)

shows_properly : (found : Found) (lists opened : Lists) (s : Show) → opens false found lists ≡ Ok opened
    → Proper (in_short found) (shows s opened).changes
shows_properly found lists opened (show.Get id deleted) e =
    over found lists opened (get_effect (meaning_of opened) id deleted) e
shows_properly found lists opened (show.Conflicts id) e =
    over found lists opened (conflicts_effect (meaning_of opened) id) e
shows_properly found lists opened show.IndexList e = over found lists opened (index_list_effect opened) e
shows_properly found lists opened (show.Query name values) e =
    over found lists opened (query_effect opened name values) e
shows_properly found lists opened (show.Range name start end) e =
    over found lists opened (range_effect opened name start end) e
shows_properly found lists opened (show.Keys name) e = over found lists opened (keys_effect opened name) e
shows_properly found lists opened (show.All deleted) e = over found lists opened (all_effect opened deleted) e
shows_properly found lists opened (show.Changes generation) e =
    over found lists opened (changes_effect (meaning_of opened) generation) e
shows_properly found lists opened show.Info e = over found lists opened (info_effect opened) e

edits_properly : (seed : ℕ) (exprs : Result (List Text) Outcome) (found : Found) (lists opened : Lists) (c : Edit)
    (content : Tree) → opens false found lists ≡ Ok opened
    → Proper (in_short found) (edits seed exprs c opened content).changes
edits_properly seed exprs found lists opened (edit.Create id) content e =
    over found lists opened (create_effect (meaning_of opened) seed id content) e
edits_properly seed exprs found lists opened (edit.Put id rev) content e =
    over found lists opened (put_effect (meaning_of opened) seed id rev content) e
edits_properly seed exprs found lists opened (edit.Delete id rev) content e =
    over found lists opened (delete_effect (meaning_of opened) seed id rev) e
edits_properly seed exprs found lists opened (edit.Resolve id revs) content e =
    over found lists opened (resolve_effect (meaning_of opened) seed id revs content) e
edits_properly seed exprs found lists opened (edit.ResolveDeleted id revs) content e =
    over found lists opened (resolve_deleted_effect (meaning_of opened) seed id revs) e
edits_properly seed exprs found lists opened (edit.IndexCreate name texts) content e =
    over_expressions found lists opened exprs (λ canonicals. index_create_effect opened name canonicals) e
edits_properly seed exprs found lists opened (edit.IndexDelete name) content e =
    over found lists opened (index_delete_effect opened name) e

does_properly : (seed : ℕ) (exprs : Result (List Text) Outcome) (sizes : Result Sizes Outcome) (c : Command)
    (found : Found) (lists opened : Lists) (content : Tree)
    → opens (makes_store c) found lists ≡ Ok opened
    → Proper (in_short found) (does seed exprs sizes c opened content).changes
does_properly seed exprs sizes (command.Init name uid limit) found lists opened content e =
    makes found lists opened seed exprs sizes name uid limit content e
does_properly seed exprs sizes (command.Show show) found lists opened content e =
    shows_properly found lists opened show e
does_properly seed exprs sizes (command.Edit edit) found lists opened content e =
    edits_properly seed exprs found lists opened edit content e
does_properly seed exprs (Ok sizes) command.Compact found lists opened content e = tt
does_properly seed exprs (Err outcome) command.Compact found lists opened content e = tt
does_properly seed exprs sizes (command.Online online) found lists opened content e = tt
does_properly seed exprs sizes (command.Work seed2 count) found lists opened content e = tt
does_properly seed exprs sizes (command.View view) found lists opened content e = tt

opened_so : (b : Result (Unit {0}) Outcome) (r : Result Lists Outcome) (lists : Lists)
    → if_built b r ≡ Ok lists → r ≡ Ok lists
opened_so (Ok done) r lists e = e
opened_so (Err outcome) r lists e = absurd (cc e)

pub answered : (o : Occasion) → Proper (in_short o.found) (answer o).changes
answered o =
    then_holds (Proper (in_short o.found)) (opens_for o.command o.found o.lists)
    (λ lists. go_on (takes (reads_input o.command) o.given)
    (λ content. does o.seed o.exprs o.sizes o.command lists content))
    tt
    (λ lists e.
    then_holds (Proper (in_short o.found)) (takes (reads_input o.command) o.given)
    (λ content. does o.seed o.exprs o.sizes o.command lists content)
    tt
    (λ content taken. does_properly o.seed o.exprs o.sizes o.command o.found o.lists lists content
    (opened_so (built o.command) (opens (makes_store o.command) o.found o.lists) lists e)))
