-- A command with its input.
use Rattle.std.proofs.Common.{◌≡◌, ◌≢◌, ℕ, List, [], Some, None, Result, Ok, Err, true, false, refl, sym, ap}
use Rattle.std.proofs.Common.{append-nil}
use Rattle.std.specs.Prelude.{Bool, Option}
use Rattle.std.specs.Result.{IsErrOf}
use Rattle.u1_base.specs.Causes.{Rose}
use Rattle.cli_words.specs.declared.command.Command.{Command}
use Rattle.cli_words.specs.declared.command.Command.TheVariants.{Compact}
use Rattle.conflicts.specs.State.{Text}
use Rattle.content.specs.Faults.{fault_of}
use Rattle.content.specs.Reading.{content_in}
use Rattle.content.specs.Tree.{Tree, null}
use Rattle.content.specs.declared.fault.ContentFault.{ContentFault}
use Rattle.content.specs.declared.fault.ContentFault.TheVariants as content
use Rattle.link.proofs.Taking.{took_nothing}
use Rattle.link.specs.Streams.{Input, Output, Reads, Takes}
use Rattle.link.specs.declared.input.InputFault.{InputFault}
use Rattle.link.specs.declared.input.InputFault.TheVariants as input
use Rattle.outside.specs.Known.{OutsideKnown}
use Rattle.replica_core.specs.Replica.{Found as Left, Known, Stands as LeftStands, Stored, stored_in}
use Rattle.replica_state.specs.Held.{Lists}
use Rattle.command_lines.specs.Outcomes.{content_end, input_end}
use Rattle.command_lines.specs.declared.outcome.Outcome.{Outcome}
use Rattle.command_lines.specs.Endings.{Ending, Finished, Answered, TooLong, DiskFailed, InputFailed, OutputFailed}
use Rattle.command_lines.specs.Endings.{LinkFailed, DoorFailed, OutOfMemory, ending_of}
use Rattle.command_lines.proofs.Endings.{IsOf, of_kind, other_kind}
use Rattle.command_lines.specs.declared.outcome.Outcome.TheVariants.{DiskFault, Memory, SourceFault}
use Rattle.store_commands.specs.Answer.{exprs_given, most_input, reads_input, takes}
use Rattle.store_commands.specs.Carries.{Answers, Carries, CarriesCompacting, InStore, found_open}
use Rattle.store_commands.specs.inner.Carries.{TakesFor, TakesNone}
use Rattle.store_commands.specs.Compacting.{Image}
use Rattle.store_commands.specs.Deeds.{Answer, compacts_as, does, ended, go_on}
use Rattle.store_commands.specs.Expressions.{HaveRead}
use Rattle.store_commands.specs.Found.{Found, Store, opened_as}
use Rattle.store_commands.specs.Leaves.{Cause, Does, IsRead, IsReadBy}
use Rattle.disks.specs.declared.fault.Sizes.{Sizes}
use Rattle.store_commands.proofs.Causes.{cause_seen}
use Rattle.store_commands.proofs.Exits.{resting}
use Rattle.store_commands.proofs.Moving.{open_now, unmoved}

-- ---- reading a content

pub unread_so : {T : Type 0} (before after : Input) (fault : InputFault) → Reads most_input before after (Err fault)
    → (IsErrOf {T = T} (Err fault) input.Source → Rose before.faults after.faults)
    → TakesFor before after (Err (input_end fault))
unread_so before after input.Source reads cause = (reads.0, reads.1, reads.2, cause refl)
unread_so before after input.Memory reads cause = (reads.0, reads.1, reads.2)

pub read_so : (before after : Input) (bytes : List ℕ) (tree : Tree) → Reads most_input before after (Ok bytes)
    → content_in bytes ≡ Some tree → TakesFor before after (Ok tree)
read_so before after bytes tree reads is = (bytes, reads, rw is refl)

-- a fault that is not out of memory is why the text is no content
refused_so : (bytes : List ℕ) (fault : ContentFault) (end : Outcome) → content_end fault ≡ end
    → fault_of bytes ≡ Some fault → content_in bytes ≡ None → takes true bytes ≡ Err end
refused_so bytes fault end is why none = rw (none, why) (ap (λ (e : Outcome). Err e) is)

pub no_content : (before after : Input) (bytes : List ℕ) (fault : ContentFault)
    → Reads most_input before after (Ok bytes)
    → (fault ≢ content.Memory → fault_of bytes ≡ Some fault) → (fault ≢ content.Memory → content_in bytes ≡ None)
    → TakesFor before after (Err (content_end fault))
no_content before after bytes (content.TooBig n) reads why none =
    (bytes, reads, refused_so bytes _ _ refl (why (λ h. cc)) (none (λ h. cc)))
no_content before after bytes content.NotJson reads why none =
    (bytes, reads, refused_so bytes _ _ refl (why (λ h. cc)) (none (λ h. cc)))
no_content before after bytes content.NotObject reads why none =
    (bytes, reads, refused_so bytes _ _ refl (why (λ h. cc)) (none (λ h. cc)))
no_content before after bytes content.TooDeep reads why none =
    (bytes, reads, refused_so bytes _ _ refl (why (λ h. cc)) (none (λ h. cc)))
no_content before after bytes content.NotWhole reads why none =
    (bytes, reads, refused_so bytes _ _ refl (why (λ h. cc)) (none (λ h. cc)))
no_content before after bytes content.OutOfRange reads why none =
    (bytes, reads, refused_so bytes _ _ refl (why (λ h. cc)) (none (λ h. cc)))
no_content before after bytes content.Memory reads why none = (bytes, bytes, reads)

-- ---- what was read of what was due

all_read_by : (given : List ℕ) (kind : Ending) → IsReadBy kind given given
all_read_by given Finished = refl
all_read_by given Answered = refl
all_read_by given (TooLong need limit) = refl
all_read_by given DiskFailed = ([], sym (append-nil given))
all_read_by given InputFailed = ([], sym (append-nil given))
all_read_by given OutputFailed = refl
all_read_by given LinkFailed = refl
all_read_by given DoorFailed = refl
all_read_by given OutOfMemory = ([], sym (append-nil given))

pub all_read : (given : List ℕ) (decided : Outcome) → IsRead given given decided
all_read given decided = all_read_by given (ending_of decided)

-- who reads nothing has no fault of the input
pub reads_free : (found : Found) (opened : Bool) (a : Answer) (other : Type 0) (before after : Store)
    (decided : Outcome) → Does found opened a ⊥ before after decided → Does found opened a other before after decided
reads_free found opened a other before after decided d = record {
  stood = d.stood;
  reached = d.reached;
  passes = d.passes;
  leaves = record {
    cause = cause_seen found opened a ⊥ other d.stood d.reached before after before after (λ rose. rose)
        (λ read. absurd read) decided (ending_of decided) d.leaves.cause;
    fits = d.leaves.fits;
    front = d.leaves.front;
    rest = d.leaves.rest;
    need = d.leaves.need;
    bytes = d.leaves.bytes;
  };
}

-- ---- over an open replica

module _ {R : Type 0} (known : R → Known) (is_open : R → Type 0) (crash : R → ℕ → Left Stored → Type 0)
    (settled : (r : R) (o : Left Stored) → is_open r → crash r (known r).moment o → o ≡ LeftStands (stored_in (known r)))
    (command : Command) (seed : ℕ) (exprs : Result (List Text) Outcome)
    (exprs_read : HaveRead (exprs_given command) exprs) (other : command ≢ Compact) (lists : Lists)
    (image_before image_after : Option Image) where
  -- it is not compact
  abbrev sizes : Result Sizes Outcome
  sizes = Err Memory

  -- a command that reads no input
  pub without_input : (a : Answer) (old new : R) (outside : OutsideKnown) (out_after : Output)
      (result : Result (Unit {0}) Outcome)
      → reads_input command ≡ false → a ≡ does seed exprs sizes command lists null
      → Carries known is_open crash a old new outside.output out_after result
      → InStore command seed (is_open new) (found_open (known old)) lists image_before image_after (opened_as (known old) (crash old))
      (opened_as (known new) (crash new)) outside (record outside { output = out_after }) result
  without_input a old new outside out_after result reads is carries = record {
    decided = carries.decided;
    exprs = exprs;
    exprs_read = exprs_read;
    sizes = sizes;
    compacted = λ is. absurd (other is);
    given = (took_nothing most_input outside.input).0;
    read = [];
    a = a;
    is = rw reads is;
    store = reads_free (found_open (known old)) true a _ (opened_as (known old) (crash old))
        (opened_as (known new) (crash new)) carries.decided carries.does;
    ready = carries.ready;
    input = (took_nothing most_input outside.input).1;
    is_read = rw reads (all_read [] carries.decided);
    peers = record { link = refl; door = refl };
    answers = carries.answers;
  }

  -- a command whose content was read
  pub with_input : (tree : Tree) (a : Answer) (old new : R) (outside : OutsideKnown) (after : Input)
      (out_after : Output) (result : Result (Unit {0}) Outcome)
      → reads_input command ≡ true → TakesFor outside.input after (Ok tree)
      → a ≡ does seed exprs sizes command lists tree
      → Carries known is_open crash a old new outside.output out_after result
      → InStore command seed (is_open new) (found_open (known old)) lists image_before image_after (opened_as (known old) (crash old))
      (opened_as (known new) (crash new)) outside (record outside { input = after; output = out_after }) result
  with_input tree a old new outside after out_after result reads taken is carries = record {
    decided = carries.decided;
    exprs = exprs;
    exprs_read = exprs_read;
    sizes = sizes;
    compacted = λ is. absurd (other is);
    given = taken.0;
    read = taken.0;
    a = a;
    is = rw (reads, taken.2) is;
    store = reads_free (found_open (known old)) true a _ (opened_as (known old) (crash old))
        (opened_as (known new) (crash new)) carries.decided carries.does;
    ready = carries.ready;
    input = taken.1;
    is_read = rw reads (all_read taken.0 carries.decided);
    peers = record { link = refl; door = refl };
    answers = carries.answers;
  }

  -- the input gave no content
  module _ (r : R) (outside : OutsideKnown) (after : Input) (ready : is_open r)
      (reads : reads_input command ≡ true) where
    abbrev Ends : Outcome → Type 0
    Ends outcome = InStore command seed (is_open r) (found_open (known r)) lists image_before image_after
        (opened_as (known r) (crash r)) (opened_as (known r) (crash r)) outside (record outside { input = after })
        (Err outcome)

    abbrev by_content : List ℕ → Answer
    by_content given = go_on (takes (reads_input command) given)
        (λ content. does seed exprs sizes command lists content)

    -- it is no content
    no_content_in : (outcome : Outcome) → ending_of outcome ≡ Answered → (given : List ℕ)
        → Takes most_input given given outside.input after → takes true given ≡ Err outcome → Ends outcome
    no_content_in outcome kind given taken why = record {
      decided = outcome;
      exprs = exprs;
      exprs_read = exprs_read;
      sizes = sizes;
      compacted = λ is. absurd (other is);
      given = given;
      read = given;
      a = ended outcome;
      is = rw (reads, why) refl;
      store = record {
        stood = 0;
        reached = 0;
        passes = unmoved (found_open (known r)) [] (opened_as (known r) (crash r)) (open_now (known r));
        leaves = resting known is_open crash settled (ended outcome) _ r outcome ready (rw kind (refl, refl));
      };
      ready = λ no. ready;
      input = taken;
      is_read = rw reads (all_read given outcome);
      peers = record { link = refl; door = refl };
      answers = rw kind (refl, refl);
    }

    -- it was not read to its end
    broke_off : (outcome : Outcome) (given read : List ℕ) → (taken : Takes most_input given read outside.input after)
        → Cause (found_open (known r)) true (by_content given)
        ((reads_input command ≡ true) × Rose outside.input.faults after.faults) 0 0
        (opened_as (known r) (crash r)) (opened_as (known r) (crash r)) outcome (ending_of outcome)
        → IsRead given read outcome → Answers (by_content given).text outside.output outside.output outcome (Err outcome)
        → Ends outcome
    broke_off outcome given read taken cause front answers = record {
      decided = outcome;
      exprs = exprs;
      exprs_read = exprs_read;
      sizes = sizes;
      compacted = λ is. absurd (other is);
      given = given;
      read = read;
      a = by_content given;
      is = refl;
      store = record {
        stood = 0;
        reached = 0;
        passes = unmoved (found_open (known r)) (by_content given).changes (opened_as (known r) (crash r))
            (open_now (known r));
        leaves = resting known is_open crash settled (by_content given) _ r outcome ready cause;
      };
      ready = λ no. ready;
      input = taken;
      is_read = rw reads front;
      peers = record { link = refl; door = refl };
      answers = answers;
    }

    untaken_by : (outcome : Outcome) (kind : Ending) → ending_of outcome ≡ kind → IsOf kind outcome
        → TakesNone outside.input after outcome kind → Ends outcome
    untaken_by outcome Answered is of taken = no_content_in outcome is taken.0 taken.1 taken.2
    untaken_by outcome InputFailed is of taken =
        rw of (broke_off SourceFault taken.0 taken.1 taken.2 ((reads, taken.3), refl) taken.2.front (refl, refl))
    untaken_by outcome OutOfMemory is of taken =
        rw of (broke_off Memory taken.0 taken.1 taken.2 tt taken.2.front (refl, refl))
    untaken_by outcome Finished is of taken = absurd taken
    untaken_by outcome (TooLong need limit) is of taken = absurd taken
    untaken_by outcome DiskFailed is of taken = absurd taken
    untaken_by outcome OutputFailed is of taken = absurd taken
    untaken_by outcome LinkFailed is of taken = absurd taken
    untaken_by outcome DoorFailed is of taken = absurd taken

    pub untaken : (outcome : Outcome) → TakesFor outside.input after (Err outcome) → Ends outcome
    untaken outcome taken = untaken_by outcome (ending_of outcome) refl (of_kind outcome) taken

-- ---- compact reads no input

module _ {O : Type 0} (known : O → Known) (is_open : O → Type 0) (crash : O → ℕ → Left Stored → Type 0)
    (image : O → Option Image) (seed : ℕ) (lists : Lists) where
  pub compacting : (old new : O) (outside : OutsideKnown) (out_after : Output) (result : Result (Unit {0}) Outcome)
      → CarriesCompacting known is_open crash image old new outside.output out_after result
      → InStore Compact seed (is_open new) (found_open (known old)) lists (image old) (image new)
      (opened_as (known old) (crash old)) (opened_as (known new) (crash new)) outside
      (record outside { output = out_after }) result
  compacting old new outside out_after result done = record {
    decided = done.carries.decided;
    exprs = Ok [];
    exprs_read = refl;
    sizes = done.sizes;
    compacted = λ is. done.comes;
    given = (took_nothing most_input outside.input).0;
    read = [];
    a = compacts_as done.sizes;
    is = refl;
    store = reads_free (found_open (known old)) true (compacts_as done.sizes) _ (opened_as (known old) (crash old))
        (opened_as (known new) (crash new)) done.carries.decided done.carries.does;
    ready = done.carries.ready;
    input = (took_nothing most_input outside.input).1;
    is_read = all_read [] done.carries.decided;
    peers = record { link = refl; door = refl };
    answers = done.carries.answers;
  }
