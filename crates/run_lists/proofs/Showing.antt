-- What a run showed that asked an index is the filter of the live documents.
use Rattle.std.proofs.Common.{◌≡◌, ℕ, ◌==◌, ◌&&◌, Bool, true, false, true≢false, T, List, [], ◌∷◌, length, map}
use Rattle.std.proofs.Common.{if◌then◌else◌, Option, Some, None, Result, Ok, Err, refl, sym, ◌∙◌, ap, ap₂, subst}
use Rattle.std.proofs.Common.{append-nil, inl, inr}
use Rattle.std.specs.Prelude.{IsTrue}
use Rattle.std.specs.FinMap.Entries.{below_all, is_sorted}
use Rattle.std.specs.Io.KnownBytes.{Appends}
use Rattle.std.specs.Ordering.{is_lt}
use Rattle.u1_base.specs.Ids.{id_cmp}
use Rattle.cli_words.specs.Words.{command_in}
use Rattle.cli_words.specs.declared.command.Command.{Command}
use Rattle.cli_words.specs.declared.command.Command.TheVariants.{Show}
use Rattle.cli_words.specs.declared.command.Show.TheVariants.{Query, Range, Keys}
use Rattle.cli_words.specs.declared.fault.WordsFault.{WordsFault}
use Rattle.command_lines.specs.Endings.{ending_of}
use Rattle.command_lines.specs.LastLines.{last_line}
use Rattle.command_lines.specs.Lines.{lines_text}
use Rattle.command_lines.specs.Outcomes.{index_end, put_end, refusal_end, resolve_end}
use Rattle.command_lines.specs.declared.outcome.Outcome.{Outcome}
use Rattle.command_lines.specs.declared.outcome.Outcome.TheVariants.{Done, Memory}
use Rattle.conflicts.specs.State.{State, Text}
use Rattle.disks.specs.Joint.{seen_of}
use Rattle.index_tables.specs.Order.{Key}
use Rattle.link.specs.Streams.{Input, Output}
use Rattle.query_range.specs.Answers.{IsAnswerBy, is_between}
use Rattle.query_range.specs.Patterns.{meets, part_of}
use Rattle.query_range.specs.declared.pattern.Part.{Part}
use Rattle.replica_cli.specs.Run.{Runs, RunsAs, RunsCommand}
use Rattle.replica_cli.specs.Store.{found_in, store_seen}
use Rattle.replica_core.specs.Commands.Documents.{document_lines}
use Rattle.replica_core.specs.CallsFaults.{index_failure, put_failure, resolve_failure}
use Rattle.replica_core.specs.Commands.Effects.{Effect, Keyed, Line, Refusal, prints}
use Rattle.replica_core.specs.Commands.Effects.{Edit as OfEdit, Resolve as OfResolve, OfIndex, Query as OfQuery}
use Rattle.replica_core.specs.declared.fault.CommitFault.{CommitFault}
use Rattle.replica_core.specs.declared.fault.CommitFault.TheVariants as commit
use Rattle.replica_core.specs.Commands.Indexes.{answer_effect, keys_effect, of_index, query_effect, range_effect}
use Rattle.replica_core.specs.Replica.{Stands as LeftStands}
use Rattle.replica_reads.specs.Answers.{AnswersAreFilters, answer_by, keys_by}
use Rattle.replica_reads.specs.Indexes.{for_pattern, queried, ranged}
use Rattle.replica_reads.specs.Patterns.{bad_glob, has_width, unless_at}
use Rattle.replica_reads.specs.declared.fault.QueryFault.{QueryFault}
use Rattle.replica_reads.specs.declared.fault.QueryFault.TheVariants.{WrongWidth, BadGlob, Memory as Starved}
use Rattle.replica_state.specs.Held.{Held, Lists, lists_of, meaning, meaning_of}
use Rattle.replica_state.specs.Keyed.{Docs, keyed}
use Rattle.store_commands.proofs.Called.{index_ends, put_ends, resolve_ends}
use Rattle.store_commands.specs.Answer.{Occasion, answer, is_opened, opens, opens_for}
use Rattle.store_commands.specs.inner.Calls.{EndsSo}
use Rattle.store_commands.specs.Deeds.{Answer, go_on, over_replica}
use Rattle.store_commands.specs.Found.{Blank, Damaged, Found, HasLists, IsTold, Stands, Store, in_short}
use Rattle.store_commands.specs.Leaves.{Leaves}
use Rattle.store_commands.specs.Prints.{Prints, printed}
use Rattle.store_commands.specs.Run.{BreaksOff, HasAnswer, IsAnswered, IsUnread}
use Rattle.run_lists.specs.Kept.{found_at}
use Rattle.run_lists.specs.Lists.{Asked, Between, RunInTurn, RunsOnce, with_input}
use Rattle.run_lists.specs.Questions.{AnswersInTurn, AnswersOnce, IndexOver, Showed, ShowedBy, ShowsDocuments}
use Rattle.run_lists.specs.Questions.{ShowsKeys}

-- ---- documents with their keys are in the order of their ids

below_keyed : (exprs : List Text) (id : Text) (docs : Docs)
    → below_all id_cmp id (keyed exprs docs) ≡ below_all id_cmp id docs
below_keyed exprs id [] = refl
below_keyed exprs id (d ∷ docs) = ap (λ (b : Bool). is_lt (id_cmp id d.0) && b) (below_keyed exprs id docs)

sorted_keyed : (exprs : List Text) (docs : Docs) → is_sorted id_cmp (keyed exprs docs) ≡ is_sorted id_cmp docs
sorted_keyed exprs [] = refl
sorted_keyed exprs (d ∷ docs) = ap₂ (λ (a b : Bool). a && b) (below_keyed exprs d.0 docs) (sorted_keyed exprs docs)

-- ---- what is refused is not done

no_end : (found : Option CommitFault) (end : Outcome) → EndsSo found end → end ≡ Done → ⊥
no_end None end is e = cc (sym is.1 ∙ e)
no_end (Some (commit.Full need limit)) end is e = cc (sym is ∙ e)
no_end (Some commit.Disk) end is e = cc (sym is ∙ e)
no_end (Some commit.Memory) end is e = cc (sym is ∙ e)

not_done : (refusal : Refusal) → refusal_end refusal ≡ Done → ⊥
not_done (OfEdit fault) e = no_end (put_failure fault) (put_end fault) (put_ends fault) e
not_done (OfResolve fault) e = no_end (resolve_failure fault) (resolve_end fault) (resolve_ends fault) e
not_done (OfIndex fault) e = no_end (index_failure fault) (index_end fault) (index_ends fault) e
not_done (OfQuery WrongWidth) e = cc e
not_done (OfQuery (BadGlob place)) e = cc e
not_done (OfQuery Starved) e = cc e

-- ---- what an answer has where it is no refusal

abbrev ids_in : Result (List Text) QueryFault → List Text
ids_in (Ok ids) = ids
ids_in (Err fault) = []

abbrev lines_in : Result Effect Refusal → List Line
lines_in (Ok effect) = effect.lines
lines_in (Err refusal) = []

-- a pattern that is one is that of the values
of_pattern : (fits : Bool) (bad : Option ℕ) (parts : List Part) (answers : (Key → Bool) → List Text) (ids : List Text)
    → for_pattern (if fits then unless_at bad parts else Err WrongWidth) answers ≡ Ok ids
    → answers (meets parts) ≡ ids
of_pattern true None parts answers ids e = ap ids_in e
of_pattern true (Some place) parts answers ids e = absurd (cc e)
of_pattern false bad parts answers ids e = absurd (cc e)

of_range : (fits : Bool) (found ids : List Text)
    → ◌≡◌ {A = Result (List Text) QueryFault} (if fits then Ok found else Err WrongWidth) (Ok ids) → found ≡ ids
of_range true found ids e = ap ids_in e
of_range false found ids e = absurd (cc e)

-- P of the lines
module _ (P : List Line → Type 0) where
  of_answer : (l : Lists) (r : Result (List Text) QueryFault)
      → ((ids : List Text) → r ≡ Ok ids → P (document_lines (meaning_of l) false ids))
      → (effect : Effect) → answer_effect l r ≡ Ok effect → P effect.lines
  of_answer l (Ok ids) p effect e = subst P (ap lines_in e) (p ids refl)
  of_answer l (Err fault) p effect e = absurd (cc e)

  of_name : (found : Option (List Text)) (next : List Text → Result Effect Refusal)
      → ((exprs : List Text) → found ≡ Some exprs → (effect : Effect) → next exprs ≡ Ok effect → P effect.lines)
      → (effect : Effect) → of_index found next ≡ Ok effect → P effect.lines
  of_name None next p effect e = absurd (cc e)
  of_name (Some exprs) next p effect e = p exprs refl effect e

  -- the text is that of lines of which P holds
  abbrev Spells : List ℕ → Type 0
  Spells text = (lines : List Line) × (text ≡ lines_text lines) × P lines

  of_effect : (r : Result Effect Refusal) → ((effect : Effect) → r ≡ Ok effect → P effect.lines)
      → (over_replica r).outcome ≡ Done → Spells (over_replica r).text
  of_effect (Ok effect) p e = (effect.lines, refl, p effect refl)
  of_effect (Err refusal) p e = absurd (not_done refusal e)

-- ---- the three questions, over the lists of a state

module _ (filters : AnswersAreFilters) (held : Held) (name : Text) where
  abbrev docs : Docs
  docs = held.collection.docs.pairs

  in_order : (exprs : List Text) → T (is_sorted id_cmp (keyed exprs docs))
  in_order exprs = subst T (sym (sorted_keyed exprs docs)) held.collection.docs.sorted

  abbrev index_over : (exprs : List Text) → (meaning held).index name ≡ Some exprs → IndexOver (meaning held) name
  index_over exprs there = record {
    exprs = exprs;
    there = there;
    documents = keyed exprs docs;
    in_order = in_order exprs;
    keys = λ id. filters.contents exprs docs id;
  }

  filtered : (wanted : Key → Bool) (exprs ids : List Text) → (meaning held).index name ≡ Some exprs
      → answer_by wanted (keyed exprs docs) ≡ ids
      → ShowsDocuments (meaning held) name wanted (document_lines (meaning held) false ids)
  filtered wanted exprs ids there e = record {
    index = index_over exprs there;
    ids = ids;
    filter = subst (λ (x : List Text). IsAnswerBy wanted (keyed exprs docs) x) e
        (filters.answer wanted (keyed exprs docs) (in_order exprs));
    are = refl;
  }

  pub query_shows : (values : List Text) → (over_replica (query_effect (lists_of held) name values)).outcome ≡ Done
      → Spells (λ lines. ShowsDocuments (meaning held) name (meets (map part_of values)) lines)
      (over_replica (query_effect (lists_of held) name values)).text
  query_shows values e =
      let wanted = meets (map part_of values) in
      let P = λ (lines : List Line). ShowsDocuments (meaning held) name wanted lines in
      of_effect P (query_effect (lists_of held) name values)
      (of_name P ((meaning held).index name) (λ exprs. answer_effect (lists_of held) (queried exprs docs values))
      (λ exprs there. of_answer P (lists_of held) (queried exprs docs values)
      (λ ids q. filtered wanted exprs ids there
      (of_pattern (length values == length exprs) (bad_glob (map part_of values)) (map part_of values)
      (λ wanted. answer_by wanted (keyed exprs docs)) ids q))))
      e

  pub range_shows : (start end : Option Key)
      → (over_replica (range_effect (lists_of held) name start end)).outcome ≡ Done
      → Spells (λ lines. ShowsDocuments (meaning held) name (is_between start end) lines)
      (over_replica (range_effect (lists_of held) name start end)).text
  range_shows start end e =
      let wanted = is_between start end in
      let P = λ (lines : List Line). ShowsDocuments (meaning held) name wanted lines in
      of_effect P (range_effect (lists_of held) name start end)
      (of_name P ((meaning held).index name) (λ exprs. answer_effect (lists_of held) (ranged exprs docs start end))
      (λ exprs there. of_answer P (lists_of held) (ranged exprs docs start end)
      (λ ids q. filtered wanted exprs ids there
      (of_range (has_width (length exprs) start && has_width (length exprs) end)
      (answer_by wanted (keyed exprs docs)) ids q))))
      e

  pub keys_shows : (over_replica (keys_effect (lists_of held) name)).outcome ≡ Done
      → Spells (λ lines. ShowsKeys (meaning held) name lines) (over_replica (keys_effect (lists_of held) name)).text
  keys_shows e =
      let P = λ (lines : List Line). ShowsKeys (meaning held) name lines in
      of_effect P (keys_effect (lists_of held) name)
      (of_name P ((meaning held).index name) (λ exprs. prints (map Keyed (keys_by (keyed exprs docs))))
      (λ exprs there effect q. subst P (ap lines_in q) (record {
        index = index_over exprs there;
        keys = keys_by (keyed exprs docs);
        filter = filters.keys (keyed exprs docs) (in_order exprs);
        are = refl;
      })))
      e

-- ---- a run that was done

-- it printed the text of what it answered
printed_done : (a : Answer) (decided : Outcome) (before after : Output)
    → Prints (printed a decided) before after decided Done
    → (decided ≡ Done) × Appends before.taken after.taken a.text
printed_done a decided before after (inl x) = (
  sym x.0,
  subst (λ (text : List ℕ). Appends before.taken after.taken text) (append-nil a.text)
      (subst (λ (o : Outcome). Appends before.taken after.taken (printed a o)) (sym x.0) x.1.taken),
)
printed_done a decided before after (inr (inl x)) = absurd (cc x.0)
printed_done a decided before after (inr (inr x)) = absurd (cc x.0)

-- and was not broken off
never_memory : (text : List ℕ) (before after : Output) → Prints text before after Memory Done → ⊥
never_memory text before after (inl x) = absurd (cc x.0)
never_memory text before after (inr (inl x)) = absurd (cc x.0)
never_memory text before after (inr (inr x)) = absurd (cc x.0)

has_answer : (o : Occasion) (opened : Bool) (read : List ℕ) (a : Answer) (decided : Outcome)
    → decided ≡ Done → IsAnswered o opened read a decided → HasAnswer o opened a
has_answer o opened read a decided e (inl has) = has
has_answer o opened read a decided e (inr none) =
    absurd (subst (λ (r : Outcome). BreaksOff (ending_of r)) e none.broke)

as_answered : (found : Found) (opened : Bool) (a : Answer) (unread : Type 0) (stood reached : ℕ)
    (before after : Store) (decided : Outcome)
    → decided ≡ Done → Leaves found opened a unread stood reached before after decided → a.outcome ≡ Done
as_answered found opened a unread stood reached before after decided e leaves =
    (subst (λ (r : Outcome). Leaves found opened a unread stood reached before after r) e leaves).cause.0

-- a command that goes on over what stands does so over the lists of a state
record OverLists (found : Found) (a : Answer) (next : Lists → Answer) : Type 0 where
  held : Held
  limit : ℕ
  short : in_short found ≡ LeftStands (record { state = meaning held; limit = limit })
  is : (next (lists_of held)).outcome ≡ Done
  text : a.text ≡ (next (lists_of held)).text

over_lists : (found : Found) (lists : Lists) (next : Lists → Answer)
    → (is_opened (opens false found lists) ≡ true → HasLists found lists)
    → (go_on (opens false found lists) next).outcome ≡ Done
    → OverLists found (go_on (opens false found lists) next) next
over_lists Blank lists next listed e = absurd (cc e)
over_lists (Damaged disk place) lists next listed e = absurd (cc e)
over_lists (Stands x) lists next listed e =
    let has = listed refl in
    record {
      held = has.0;
      limit = x.limit;
      short = ap (λ (s : State). LeftStands (record { state = s; limit = x.limit })) (sym has.1);
      is = subst (λ (l : Lists). (next l).outcome ≡ Done) has.2 e;
      text = ap (λ (l : Lists). (next l).text) has.2;
    }

told_so : (tells : Bool) (there found : Found) → IsTold (if tells then Some there else None) found → IsTrue tells
    → in_short there ≡ in_short found
told_so true there found t told = ap in_short t
told_so false there found t told = absurd (true≢false (sym told))

-- it was done over the lists of the state that stood, and printed its text
record WasDone (tells : Bool) (before after : Between) (next : Lists → Answer) : Type 0 where
  held : Held
  limit : ℕ
  stood : IsTrue tells → found_at before ≡ LeftStands (record { state = meaning held; limit = limit })
  is : (next (lists_of held)).outcome ≡ Done
  printed_so : Appends before.output.taken after.output.taken (next (lists_of held)).text

module _ (tells : Bool) (command : Command) (seed : ℕ) (before after : Between) (input read : Input)
    (x : RunsCommand tells command seed (with_input before input) (with_input after read) Done)
    (next : Lists → Answer)
    (opened_by : (o : Occasion) → opens_for command o.found o.lists ≡ opens false o.found o.lists)
    (answers : (o : Occasion) → answer (record o { command = command }) ≡ go_on (opens false o.found o.lists) next)
  where
    was_done : WasDone tells before after next
    was_done =
        let d = x.runs.decides in
        let o = d.o in
        let p = printed_done x.runs.a x.runs.decided before.output after.output x.runs.prints in
        let has = has_answer o d.opened d.read x.runs.a x.runs.decided p.0 d.answers in
        let outcome = as_answered o.found d.opened x.runs.a (IsUnread o input read) d.does.stood d.does.reached
        (store_seen tells before.disks) (store_seen tells after.disks) x.runs.decided p.0 d.does.leaves in
        let same : go_on (opens false o.found o.lists) next ≡ x.runs.a =
        sym (answers o) ∙ ap (λ (c : Command). answer (record o { command = c })) (sym d.is_command) ∙ sym has.is in
        let over = over_lists o.found o.lists next
        (λ there. has.lists (ap (λ (c : Command). is_opened (opens_for c o.found o.lists)) d.is_command
        ∙ ap (λ (r : Result Lists Outcome). is_opened r) (opened_by o) ∙ there))
        (ap (λ (a : Answer). a.outcome) same ∙ outcome) in
        record {
          held = over.held;
          limit = over.limit;
          stood = λ told. told_so tells (found_in (seen_of before.disks.files)) o.found d.told told ∙ over.short;
          is = over.is;
          printed_so = subst (λ (text : List ℕ). Appends before.output.taken after.output.taken text)
              (ap (λ (a : Answer). a.text) (sym same) ∙ over.text) p.1;
        }

-- so it showed what these lists show
showed : (tells : Bool) (before after : Between) (next : Lists → Answer)
    (Shows : State → List Line → Type 0)
    → ((held : Held) → (next (lists_of held)).outcome ≡ Done
    → Spells (Shows (meaning held)) (next (lists_of held)).text)
    → WasDone tells before after next → Showed tells before after Shows
showed tells before after next Shows spelled done =
    let spells = spelled done.held done.is in
    record {
      state = meaning done.held;
      limit = done.limit;
      stood = done.stood;
      lines = spells.0;
      printed = subst (λ (text : List ℕ). Appends before.output.taken after.output.taken text) spells.1 done.printed_so;
      shows = spells.2;
    }

-- ---- each run of a list

module _ (filters : AnswersAreFilters) where
  showed_by : (tells : Bool) (command : Command) (seed : ℕ) (before after : Between) (input read : Input)
      → RunsCommand tells command seed (with_input before input) (with_input after read) Done
      → ShowedBy tells command before after
  showed_by tells (Show (Query name values)) seed before after input read x =
      let next = λ (l : Lists). over_replica (query_effect l name values) in
      showed tells before after next (λ s lines. ShowsDocuments s name (meets (map part_of values)) lines)
      (λ held e. query_shows filters held name values e)
      (was_done tells (Show (Query name values)) seed before after input read x next (λ o. refl) (λ o. refl))
  showed_by tells (Show (Range name start end)) seed before after input read x =
      let next = λ (l : Lists). over_replica (range_effect l name start end) in
      showed tells before after next (λ s lines. ShowsDocuments s name (is_between start end) lines)
      (λ held e. range_shows filters held name start end e)
      (was_done tells (Show (Range name start end)) seed before after input read x next (λ o. refl) (λ o. refl))
  showed_by tells (Show (Keys name)) seed before after input read x =
      let next = λ (l : Lists). over_replica (keys_effect l name) in
      showed tells before after next (λ s lines. ShowsKeys s name lines)
      (λ held e. keys_shows filters held name e)
      (was_done tells (Show (Keys name)) seed before after input read x next (λ o. refl) (λ o. refl))
  showed_by tells command seed before after input read x = tt

  of_words : (tells : Bool) (words : List (List ℕ)) (seed : ℕ) (before after : Between) (input read : Input)
      (command : Command) → command_in words ≡ Ok command
      → Runs tells words seed (with_input before input) (with_input after read) Done
      → ShowedBy tells command before after
  of_words tells words seed before after input read command e (inl x) =
      showed_by tells command seed before after input read
      (subst (λ (r : Result Command WordsFault). RunsAs tells r seed (with_input before input) (with_input after read)
      Done) e x)
  of_words tells words seed before after input read command e (inr away) =
      absurd (never_memory (last_line Memory) before.output after.output away.prints)

  answers_once : (tells : Bool) (a : Asked) (before after : Between) (outcome : Outcome)
      → RunsOnce tells a before after outcome → AnswersOnce tells a before after outcome
  answers_once tells a before after outcome x done command e =
      of_words tells a.words a.seed before after a.input x.read command e
      (subst (λ (o : Outcome). Runs tells a.words a.seed (with_input before a.input) (with_input after x.read) o) done
      x.runs)

  pub answers_in_turn : (tells : Bool) (list : List Asked) (before after : Between) (os : List Outcome)
      (x : RunInTurn tells list before after os) → AnswersInTurn tells list before after os x
  answers_in_turn tells [] before after [] x = tt
  answers_in_turn tells [] before after (o ∷ os) x = tt
  answers_in_turn tells (a ∷ more) before after [] x = tt
  answers_in_turn tells (a ∷ more) before after (o ∷ os) x =
      (answers_once tells a before x.0 o x.1, answers_in_turn tells more x.0 after os x.2)
