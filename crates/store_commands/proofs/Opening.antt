-- A command from the opening of its store on.
use Rattle.std.proofs.Common.{◌≡◌, ℕ, List, [], Result, Ok, Err, true, false, true≢false, refl, sym, ap, ◌∙◌, inl}
use Rattle.std.proofs.Common.{inr}
use Rattle.std.specs.Prelude.{◌≢◌, Bool, Option, is_ok}
use Rattle.cli_words.specs.declared.command.Command.{Command}
use Rattle.cli_words.specs.declared.command.Command.TheVariants.{Compact}
use Rattle.disks.specs.declared.fault.OpenFault.{OpenFault}
use Rattle.disks.specs.declared.fault.OpenFault.TheVariants as fault
use Rattle.link.proofs.Taking.{took_nothing}
use Rattle.link.specs.Streams.{IsFront}
use Rattle.outside.specs.Known.{OutsideKnown}
use Rattle.replica_core.specs.Replica.{Found as Left, Known, Stored}
use Rattle.replica_state.specs.Held.{Lists, lists_of, no_lists}
use Rattle.command_lines.specs.Endings.{ending_of}
use Rattle.command_lines.specs.Outcomes.{open_end}
use Rattle.command_lines.specs.declared.outcome.Outcome.{Outcome}
use Rattle.command_lines.specs.declared.outcome.Outcome.TheVariants.{Damaged, DiskFault, Memory, Refused}
use Rattle.command_lines.specs.declared.outcome.Refusal.TheVariants.{NoDatabase}
use Rattle.store_commands.specs.Answer.{Occasion, built, due, due_of, makes_store, most_input, opens}
use Rattle.store_commands.specs.Answer.{opens_for, reads_input, takes}
use Rattle.store_commands.specs.Carries.{Answers, Carried, InStore, found_open}
use Rattle.store_commands.specs.Changes.{Passes}
use Rattle.store_commands.specs.Compacting.{ComesTo, Image}
use Rattle.store_commands.specs.Deeds.{Answer, does, ended, go_on}
use Rattle.store_commands.specs.Found.{Blank, Damaged as DamagedStore, Found, HasLists, IsTold, IsUntouched, Store}
use Rattle.store_commands.specs.Found.{opened_as}
use Rattle.store_commands.specs.Leaves.{Cause, Does, IsRead, Leaves}
use Rattle.store_commands.specs.Run.{BreaksOff, IsAnswered, IsUnread, LeavesUntouched}
use Rattle.store_commands.specs.Store.{FailsToOpen, FindsSome, Finds, Keeps, Opens}
use Rattle.store_commands.proofs.Causes.{cause_seen}
use Rattle.store_commands.proofs.Moving.{Rose-since, none_fit, passes_then, stays}

-- ---- what the layers give

-- the store's part, after the store was looked at
pub looked_then : (found : Found) (a : Answer) (unread other : Type 0) (a_store b_store c_store : Store)
    (decided : Outcome)
    → (unread → other) → Passes found [] 0 0 a_store b_store → Does found true a unread b_store c_store decided
    → Does found true a other a_store c_store decided
looked_then found a unread other first second third decided read looked does = record {
  stood = does.stood;
  reached = does.reached;
  passes = passes_then found a.changes does.stood does.reached first second third looked does.passes;
  leaves = record {
    cause = cause_seen found true a unread other does.stood does.reached second third first third
        (Rose-since first.faults second.faults third.faults looked.faults) read decided (ending_of decided)
        does.leaves.cause;
    fits = does.leaves.fits;
    front = does.leaves.front;
    rest = λ no rests. does.leaves.rest no (inl refl);
    need = does.leaves.need;
    bytes = λ no shut. absurd (true≢false shut);
  };
}

-- a command that opens a store finds its lists
opened_lists : (command : Command) (x_known : Known) → built command ≡ Ok tt → makes_store command ≡ false
    → opens_for command (found_open x_known) (lists_of x_known.state) ≡ Ok (lists_of x_known.state)
opened_lists command known is_built opens = rw (is_built, opens) refl

-- ---- opened

is_so : (b : Result (Unit {0}) Outcome) → ◌≡◌ {A = Result (Unit {0}) Outcome} b (Ok tt) → is_ok b ≡ false → ⊥
is_so (Ok done) is not = cc
is_so (Err outcome) is not = cc

module _ (command : Command) (seed : ℕ) (before after : Store) (image_before image_after : Option Image)
    (outside_before outside_after : OutsideKnown)
    (is_built : built command ≡ Ok tt) (no_making : makes_store command ≡ false) where
  untouched : LeavesUntouched command (record { store = before; image = image_before; outside = outside_before })
      (record { store = after; image = image_after; outside = outside_after })
  untouched not = absurd (is_so (built command) is_built not)

  pub opened_then : (known : Known) (crash : ℕ → Left Stored → Type 0) (is_open : Type 0) (image : Option Image)
      (result : Result (Unit {0}) Outcome)
      → Opens before known crash is_open → image ≡ image_before
      → InStore command seed (Unit {0}) (found_open known) (lists_of known.state) image image_after
      (opened_as known crash) after outside_before outside_after result
      → Carried command seed (record { store = before; image = image_before; outside = outside_before })
      (record { store = after; image = image_after; outside = outside_after }) result
  opened_then known crash is_open image result opened same within =
      let o : Occasion = record {
        command = command;
        exprs = within.exprs;
        sizes = within.sizes;
        seed = seed;
        found = found_open known;
        lists = lists_of known.state;
        given = within.given;
      } in
      let lists : opens_for command (found_open known) (lists_of known.state) ≡ Ok (lists_of known.state) =
      opened_lists command known is_built no_making in
      record {
        decided = within.decided;
        a = within.a;
        decides = record {
          o = o;
          is_command = refl;
          is_seed = refl;
          exprs_read = within.exprs_read;
          compacted = λ is. rw same at (within.compacted is);
          told = opened.told;
          opened = true;
          answers = inl (record {
            lists = λ goes_on. (known.state, refl, refl);
            is = within.is ∙ sym (ap
                (λ (l : Result Lists Outcome). go_on l
                (λ ls. go_on (takes (reads_input command) within.given)
                (λ content. does seed within.exprs within.sizes command ls content))) lists);
            there = rw lists refl;
          });
          does = looked_then (found_open known) within.a _ (IsUnread o outside_before.input outside_after.input) before
              (opened_as known crash) after within.decided
              (λ unread. ((lists_of known.state, lists), unread.0, unread.1)) opened.keeps.passes within.store;
          read = within.read;
          takes = within.input;
          is_read = rw lists within.is_read;
        };
        untouched = untouched;
        peers = within.peers;
        answers = within.answers;
      }

-- ---- not opened

-- nothing was read
nothing_read : (reads : Bool) (given : List ℕ) (opened : Result Lists Outcome) → IsFront [] (due_of opened reads given)
nothing_read reads given opened = (due_of opened reads given, refl)

-- a command that finds no store that it wants, or of which nothing is known but that it was looked at
module _ (command : Command) (seed : ℕ) (before after : Store) (image_before image_after : Option Image)
    (outside : OutsideKnown)
    (is_built : built command ≡ Ok tt) (no_making : makes_store command ≡ false) where
  abbrev occasion : Found → Occasion
  occasion found = record {
    command = command;
    exprs = Err Memory;
    sizes = Err Memory;
    seed = seed;
    found = found;
    lists = no_lists [] [];
    given = (took_nothing most_input outside.input).0;
  }

  -- nothing was opened, read or printed
  closed : (found : Found) (decided : Outcome) → IsTold before.found found → Keeps found before after
      → IsAnswered (occasion found) false [] (ended decided) decided → IsRead (due (occasion found)) [] decided
      → Leaves found false (ended decided) (IsUnread (occasion found) outside.input outside.input) 0 0 before after
      decided
      → Answers [] outside.output outside.output decided (Err decided)
      → Carried command seed (record { store = before; image = image_before; outside = outside })
      (record { store = after; image = image_after; outside = outside }) (Err decided)
  closed found decided told keeps answered read leaves prints = record {
    decided = decided;
    a = ended decided;
    decides = record {
      o = occasion found;
      is_command = refl;
      is_seed = refl;
      exprs_read = tt;
      compacted = λ is. tt;
      told = told;
      opened = false;
      answers = answered;
      does = record { stood = 0; reached = 0; passes = keeps.passes; leaves = leaves };
      read = [];
      takes = (took_nothing most_input outside.input).1;
      is_read = read;
    };
    untouched = untouched command seed before after image_before image_after outside outside is_built no_making;
    peers = record { link = refl; door = refl };
    answers = prints;
  }

  -- it is not the store that the command wants
  unwanted : (found : Found) (decided : Outcome) → opens_for command found (no_lists [] []) ≡ Err decided
      → HasLists found (no_lists [] [])
      → Finds found before after → IsRead [] [] decided
      → Leaves found false (ended decided) (IsUnread (occasion found) outside.input outside.input) 0 0 before after
      decided
      → Answers [] outside.output outside.output decided (Err decided)
      → Carried command seed (record { store = before; image = image_before; outside = outside })
      (record { store = after; image = image_after; outside = outside }) (Err decided)
  unwanted found decided none lists finds read leaves prints =
      closed found decided finds.told finds.keeps
      (inl (record { lists = λ goes_on. lists; is = rw none refl; there = rw none refl })) (rw none read) leaves prints

  -- nothing is known but that it was looked at
  broken : (decided : Outcome) (finds : FindsSome before after) → BreaksOff (ending_of decided)
      → IsRead (due (occasion finds.found)) [] decided
      → Leaves finds.found false (ended decided) (IsUnread (occasion finds.found) outside.input outside.input) 0 0
      before after decided
      → Answers [] outside.output outside.output decided (Err decided)
      → Carried command seed (record { store = before; image = image_before; outside = outside })
      (record { store = after; image = image_after; outside = outside }) (Err decided)
  broken decided finds broke read leaves prints =
      closed finds.found decided finds.told finds.keeps
      (inr (record { broke = broke; is = refl; closed = refl; unread = refl })) read leaves prints

  unread_of : (found : Found) → IsFront [] (due (occasion found))
  unread_of found = nothing_read (reads_input command) (took_nothing most_input outside.input).0
      (opens_for command found (no_lists [] []))

  -- what was only looked at is as it was, but where a disk failed
  left : (found : Found) (decided : Outcome) → Keeps found before after
      → (decided ≢ DiskFault → IsUntouched before after)
      → Cause found false (ended decided) (IsUnread (occasion found) outside.input outside.input) 0 0 before after
      decided (ending_of decided)
      → Leaves found false (ended decided) (IsUnread (occasion found) outside.input outside.input) 0 0 before after
      decided
  left found decided keeps untouched cause = record {
    cause = cause;
    fits = none_fit found [];
    front = λ no. refl;
    rest = λ no. stays found before after keeps.passes;
    need = λ no same. keeps.need;
    bytes = λ no shut. untouched no;
  }

  pub unopened : (given : OpenFault) → FailsToOpen before after given
      → Carried command seed (record { store = before; image = image_before; outside = outside })
      (record { store = after; image = image_after; outside = outside }) (Err (open_end given))
  unopened fault.Blank finds =
      unwanted Blank (Refused NoDatabase) (rw (is_built, no_making) refl) tt finds refl
      (left Blank (Refused NoDatabase) finds.keeps (λ no. finds.untouched) (refl, refl)) (refl, refl)
  unopened (fault.Damaged disk place) finds =
      unwanted (DamagedStore disk place) (Damaged disk place) (rw (is_built, no_making) refl) tt finds refl
      (left (DamagedStore disk place) (Damaged disk place) finds.keeps (λ no. finds.untouched) (refl, refl)) (refl, refl)
  unopened fault.Disk finds =
      broken DiskFault finds.0 tt (unread_of finds.0.found)
      (left finds.0.found DiskFault finds.0.keeps (λ no. absurd (no refl)) finds.1) (refl, refl)
  unopened fault.Memory finds =
      broken Memory finds.0 tt (unread_of finds.0.found)
      (left finds.0.found Memory finds.0.keeps (λ no. finds.1) tt) (refl, refl)
