-- A store that is made.
use Rattle.std.proofs.Common.{◌≡◌, ℕ, ◌≤◌, List, [], Option, Some, None, Result, Ok, Err, true, false, refl, sym, ap}
use Rattle.std.proofs.Common.{◌∙◌, subst, inl, inr, true≢false, arith}
use Rattle.std.specs.Prelude.{Bool, if◌then◌else◌, nat_le}
use Rattle.std.proofs.lemmas.Bool.{and_parts, leb-true}
use Rattle.u1_base.specs.Causes.{Rose}
use Rattle.u1_base.specs.declared.limits.TheConstants.{GREATEST_IMAGE_LIMIT, LEAST_IMAGE_LIMIT}
use Rattle.cli_words.specs.declared.command.Command.TheVariants as command
use Rattle.conflicts.specs.State.{Text}
use Rattle.disks.specs.declared.fault.MakeFault.{MakeFault}
use Rattle.disks.specs.declared.fault.MakeFault.TheVariants as fault
use Rattle.link.proofs.Taking.{took_nothing}
use Rattle.link.specs.Streams.{Output}
use Rattle.outside.specs.Known.{OutsideKnown}
use Rattle.replica_state.specs.Held.{Lists, no_lists}
use Rattle.vector_rev.specs.Counts.{Uid}
use Rattle.command_lines.specs.Endings.{ending_of}
use Rattle.command_lines.specs.declared.outcome.Outcome.{Outcome}
use Rattle.command_lines.specs.declared.outcome.Outcome.TheVariants.{Done, Refused, DiskFault, Memory, Usage}
use Rattle.command_lines.specs.declared.outcome.Refusal.TheVariants.{DatabaseExists}
use Rattle.command_lines.specs.declared.outcome.UsageKind.TheVariants.{Words}
use Rattle.store_commands.specs.Answer.{Occasion, answer, built, due_of, is_limit, is_opened, most_input, opens}
use Rattle.store_commands.specs.Answer.{if_built, opens_for}
use Rattle.store_commands.specs.Carries.{Answers, Carried}
use Rattle.store_commands.specs.inner.Carries.{TellsMade}
use Rattle.store_commands.specs.Changes.{IsNeeded, Passes}
use Rattle.store_commands.specs.Compacting.{Image}
use Rattle.store_commands.specs.Deeds.{Answer, ended, go_on, init_answer, limit_given, uid_made}
use Rattle.store_commands.specs.Found.{Blank, Damaged as DamagedStore, Found, HasLists, IsTold, IsUntouched, Stands}
use Rattle.store_commands.specs.Found.{Store}
use Rattle.store_commands.specs.Leaves.{Cause, Does, Fit, IsRead}
use Rattle.store_commands.specs.Run.{HasAnswer, IsAnswered, IsUnread, LeavesUntouched}
use Rattle.store_commands.specs.Store.{Keeps, Makes, is_blank, making}
use Rattle.store_commands.proofs.Moving.{none_fit, stays}
use Rattle.store_commands.proofs.Taken.{all_read}

false_not_true : {P : Type 0} → false ≡ true → P
false_not_true h = cc

true_not_false : {P : Type 0} → true ≡ false → P
true_not_false h = cc

-- ---- the limit of a store that is made

if_ok : (b : Bool) → ◌≡◌ {A = Result (Unit {0}) Outcome} (if b then Ok tt else Err (Usage Words)) (Ok tt) → b ≡ true
if_ok true is = refl
if_ok false is = absurd (cc)

pub within_limits : (name : Text) (uid : Option Uid) (limit : Option ℕ) → built (command.Init name uid limit) ≡ Ok tt
    → (LEAST_IMAGE_LIMIT ≤ limit_given limit) × (limit_given limit ≤ GREATEST_IMAGE_LIMIT)
within_limits name uid limit is =
    let both = and_parts (nat_le LEAST_IMAGE_LIMIT (limit_given limit))
    (nat_le (limit_given limit) GREATEST_IMAGE_LIMIT) (if_ok (is_limit (limit_given limit)) is) in
    (leb-true _ _ both.0, leb-true _ _ both.1)

-- ---- nothing is read

none_due : (opened : Result Lists Outcome) (given : List ℕ) → due_of opened false given ≡ []
none_due (Ok lists) given = refl
none_due (Err outcome) given = refl

-- ---- init

opens_by : (b : Result (Unit {0}) Outcome) (found : Found) (lists : Lists) → b ≡ Ok tt
    → if_built b (opens true found lists) ≡ opens true found lists
opens_by b found lists is = rw is refl

module _ (name : Text) (uid : Option Uid) (limit : Option ℕ) (seed : ℕ) (before after : Store)
    (image_before image_after : Option Image) (outside : OutsideKnown) (out_after : Output)
    (result : Result (Unit {0}) Outcome)
    (is_built : built (command.Init name uid limit) ≡ Ok tt) where
  abbrev of_init : Found → Occasion
  of_init found = record {
    command = command.Init name uid limit;
    exprs = Ok [];
    sizes = Err Memory;
    seed = seed;
    found = found;
    lists = no_lists [] [];
    given = (took_nothing most_input outside.input).0;
  }

  abbrev deed : Answer
  deed = init_answer name (uid_made seed uid) (limit_given limit)

  -- a run of init
  abbrev Ran : Type 0
  Ran = Carried (command.Init name uid limit) seed
      (record { store = before; image = image_before; outside = outside })
      (record { store = after; image = image_after; outside = record outside { output = out_after } }) result

  opens_so : (found : Found) → opens_for (command.Init name uid limit) found (no_lists [] [])
      ≡ opens true found (no_lists [] [])
  opens_so found = opens_by (built (command.Init name uid limit)) found (no_lists [] []) is_built

  answers_so : (found : Found) → go_on (opens true found (no_lists [] [])) (λ lists. deed)
      ≡ answer (of_init found)
  answers_so found = sym (ap (λ (l : Result Lists Outcome). go_on l (λ lists. deed)) (opens_so found))

  opened_so : (found : Found) → is_opened (opens true found (no_lists [] []))
      ≡ is_opened (opens_for (command.Init name uid limit) found (no_lists [] []))
  opened_so found = sym (ap is_opened (opens_so found))

  answered : (found : Found) → (is_opened (opens true found (no_lists [] [])) ≡ true → HasLists found (no_lists [] []))
      → HasAnswer (of_init found) (is_opened (opens true found (no_lists [] [])))
      (go_on (opens true found (no_lists [] [])) (λ lists. deed))
  answered found lists = record {
    lists = λ goes_on. lists (opened_so found ∙ goes_on);
    is = answers_so found;
    there = opened_so found;
  }

  ran : (found : Found) (decided : Outcome) (a : Answer) (opened : Bool) → IsTold before.found found
      → IsAnswered (of_init found) opened [] a decided
      → Does found opened a (IsUnread (of_init found) outside.input outside.input) before after decided
      → Answers a.text outside.output out_after decided result → Ran
  ran found decided a opened told answers does prints = record {
    decided = decided;
    a = a;
    decides = record {
      o = of_init found;
      is_command = refl;
      is_seed = refl;
      exprs_read = refl;
      compacted = λ is. tt;
      told = told;
      opened = opened;
      read = [];
      answers = answers;
      does = does;
      takes = (took_nothing most_input outside.input).1;
      is_read = subst (λ (d : List ℕ). IsRead d [] decided)
          (sym (none_due (opens_for (command.Init name uid limit) found (no_lists [] [])) _)) (all_read [] decided);
    };
    untouched = untouched;
    peers = record { link = refl; door = refl };
    answers = prints;
  }
    where
      untouched : LeavesUntouched (command.Init name uid limit)
          (record { store = before; image = image_before; outside = outside })
          (record { store = after; image = image_after; outside = record outside { output = out_after } })
      untouched not = true_not_false (rw is_built at not)

  -- what was only looked at is as it was
  left : (found : Found) (decided : Outcome) → Keeps found before after → IsUntouched before after
      → Cause found false (ended decided) (IsUnread (of_init found) outside.input outside.input) 0 0 before after
      decided (ending_of decided)
      → Does found false (ended decided) (IsUnread (of_init found) outside.input outside.input) before after decided
  left found decided keeps untouched cause = record {
    stood = 0;
    reached = 0;
    passes = keeps.passes;
    leaves = record {
      cause = cause;
      fits = none_fit found [];
      front = λ no. refl;
      rest = λ no. stays found before after keeps.passes;
      need = λ no same. keeps.need;
      bytes = λ no shut. untouched;
    };
  }

  -- there is a store
  exists : (found : Found) → IsTold before.found found → Keeps found before after → is_blank found ≡ false
      → IsUntouched before after → (result ≡ Err (Refused DatabaseExists)) × (out_after ≡ outside.output) → Ran
  exists Blank told keeps there untouched tells = true_not_false there
  exists (DamagedStore disk place) told keeps there untouched tells =
      ran (DamagedStore disk place) (Refused DatabaseExists) (ended (Refused DatabaseExists)) false told
      (inl (answered (DamagedStore disk place) (λ goes_on. tt)))
      (left (DamagedStore disk place) (Refused DatabaseExists) keeps untouched (refl, refl)) tells
  exists (Stands x) told keeps there untouched tells =
      ran (Stands x) (Refused DatabaseExists) (ended (Refused DatabaseExists)) false told
      (inl (answered (Stands x) (λ goes_on. false_not_true goes_on)))
      (left (Stands x) (Refused DatabaseExists) keeps untouched (refl, refl)) tells

  -- a disk failed, and some of the changes stand
  on_disk : (found : Found) (a : Answer) (opened : Bool) (stood reached : ℕ)
      → Fit found a.changes reached → Passes found a.changes stood reached before after
      → Rose before.faults after.faults
      → Does found opened a (IsUnread (of_init found) outside.input outside.input) before after DiskFault
  on_disk found a opened stood reached fits passes rose = record {
    stood = stood;
    reached = reached;
    passes = passes;
    leaves = record {
      cause = rose;
      fits = fits;
      front = λ no. absurd (no refl);
      rest = λ no. absurd (no refl);
      need = λ no. absurd (no refl);
      bytes = λ no. absurd (no refl);
    };
  }

  -- there are none among no changes
  few_fit : (found : Found) (reached : ℕ) → reached ≤ 0 → Fit found [] reached
  few_fit found reached few n need most low over = absurd (omega (arith, few, low))

  -- a disk failed where there was a store
  broke_off : (found : Found) (stood reached : ℕ) → IsTold before.found found
      → Passes found [] stood reached before after → Rose before.faults after.faults
      → (result ≡ Err DiskFault) × (out_after ≡ outside.output) → Ran
  broke_off found stood reached told passes rose tells =
      ran found DiskFault (ended DiskFault) false told
      (inr (record { broke = tt; is = refl; closed = refl; unread = refl }))
      (on_disk found (ended DiskFault) false stood reached (few_fit found reached passes.within) passes rose) tells

  breaks : (found : Found) (stood reached : ℕ) → IsTold before.found found
      → Passes found (making name (uid_made seed uid) (limit_given limit) found) stood reached before after
      → Rose before.faults after.faults → (result ≡ Err DiskFault) × (out_after ≡ outside.output) → Ran
  breaks Blank stood reached told passes rose tells =
      ran Blank DiskFault deed true told (inl (answered Blank (λ goes_on. tt)))
      (on_disk Blank deed true stood reached (λ n need most low over. over.3) passes rose) tells
  breaks (DamagedStore disk place) stood reached told passes rose tells =
      broke_off (DamagedStore disk place) stood reached told passes rose tells
  breaks (Stands x) stood reached told passes rose tells = broke_off (Stands x) stood reached told passes rose tells

  -- of a store that was made nothing was needed before
  made_needs : (told : Option Found) → IsNeeded Blank deed.changes told
  made_needs None = tt
  made_needs (Some told) = tt

  pub made_so : (made : Result (Unit {0}) MakeFault)
      → Makes name (uid_made seed uid) (limit_given limit) before after made
      → TellsMade name (uid_made seed uid) made outside.output out_after result → Ran
  made_so (Ok done) makes tells =
      ran Blank Done deed true makes.told (inl (answered Blank (λ goes_on. tt)))
      (record {
        stood = 1;
        reached = 1;
        passes = makes.passes;
        leaves = record {
          cause = (refl, refl);
          fits = λ n need most low over. over.3;
          front = λ no. refl;
          rest = λ no rests. makes.settled;
          need = λ no same. made_needs after.found;
          bytes = λ no shut. absurd (true≢false shut);
        };
      }) tells
  made_so (Err fault.Exists) makes tells =
      exists makes.found makes.told makes.keeps makes.there makes.untouched tells
  made_so (Err fault.Disk) makes tells =
      breaks makes.found makes.stood makes.reached makes.told makes.passes makes.rose tells
  made_so (Err fault.Memory) makes tells =
      ran makes.0.found Memory (ended Memory) false makes.0.told
      (inr (record { broke = tt; is = refl; closed = refl; unread = refl }))
      (left makes.0.found Memory makes.0.keeps makes.1 tt) tells
