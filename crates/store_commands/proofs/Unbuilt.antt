-- A run that leaves everything as it was: its command is not built.
use Rattle.std.proofs.Common.{◌≡◌, ◌⊎◌, ℕ, [], Option, Some, None, Result, Ok, Err, true, false, refl, inl, inr, ⊎_elim}
use Rattle.std.specs.Prelude.{Bool, if◌then◌else◌}
use Rattle.cli_words.specs.declared.command.Command.{Command}
use Rattle.cli_words.specs.declared.command.Command.TheVariants as command
use Rattle.cli_words.specs.declared.command.Edit.{Edit}
use Rattle.cli_words.specs.declared.command.Edit.TheVariants as edit
use Rattle.link.proofs.Taking.{took_nothing}
use Rattle.outside.specs.Known.{OutsideKnown}
use Rattle.replica_state.specs.Held.{no_lists}
use Rattle.command_lines.specs.Endings.{Answered, ending_of}
use Rattle.command_lines.specs.declared.outcome.Outcome.{Outcome}
use Rattle.command_lines.specs.declared.outcome.Outcome.TheVariants.{Memory, Refused, Usage}
use Rattle.command_lines.specs.declared.outcome.Refusal.TheVariants.{NotBuilt}
use Rattle.command_lines.specs.declared.outcome.UsageKind.TheVariants.{Words}
use Rattle.store_commands.specs.Answer.{Occasion, built, built_edit, has_exprs, is_limit, most_input, opens_for}
use Rattle.store_commands.specs.Carries.{Answers, Carried}
use Rattle.store_commands.specs.Changes.{IsNeeded, IsNow, IsSettled}
use Rattle.store_commands.specs.Compacting.{Image}
use Rattle.store_commands.specs.Deeds.{ended, limit_given}
use Rattle.store_commands.specs.Found.{Blank, Damaged as DamagedStore, Found, IsTold, Stands, Store, in_short}
use Rattle.store_commands.specs.Leaves.{IsRead}
use Rattle.store_commands.specs.Run.{LeavesUntouched}
use Rattle.store_commands.specs.Store.{FindsSome}
use Rattle.store_commands.proofs.Moving.{needs_itself, none_fit, stays, unmoved}

false_not_true : {P : Type 0} → false ≡ true → P
false_not_true h = cc

-- ---- what is found of a store that is left alone

abbrev found_or : Option Found → Found
found_or None = Blank
found_or (Some found) = found

told_so : (told : Option Found) → IsTold told (found_or told)
told_so None = tt
told_so (Some found) = refl

now_so : (told : Option Found) → IsNow (in_short (found_or told)) told
now_so None = tt
now_so (Some found) = refl

needs_so : (told : Option Found) → IsNeeded (found_or told) [] told
needs_so None = tt
needs_so (Some found) = needs_itself found

pub left_alone : (store : Store) → FindsSome store store
left_alone store = record {
  found = found_or store.found;
  told = told_so store.found;
  keeps = record {
    passes = unmoved (found_or store.found) [] store (now_so store.found);
    need = needs_so store.found;
  };
}

-- ---- how a run ends for a command that is not built

if_usage : (b : Bool) (outcome : Outcome)
    → ◌≡◌ {A = Result (Unit {0}) Outcome} (if b then Ok tt else Err (Usage Words)) (Err outcome) → outcome ≡ Usage Words
if_usage true outcome is = absurd (cc)
if_usage false outcome is = cc

abbrev EndsUnbuilt : Outcome → Type 0
EndsUnbuilt outcome = (outcome ≡ Refused NotBuilt) ⊎ (outcome ≡ Usage Words)

built_so : {P : Type 0} (outcome : Outcome) → ◌≡◌ {A = Result (Unit {0}) Outcome} (Ok tt) (Err outcome) → P
built_so outcome is = cc

not_yet : (outcome : Outcome) → ◌≡◌ {A = Result (Unit {0}) Outcome} (Err (Refused NotBuilt)) (Err outcome)
    → EndsUnbuilt outcome
not_yet outcome is = let e : outcome ≡ Refused NotBuilt = cc in inl e

edit_ends : (given : Edit) (outcome : Outcome) → built_edit given ≡ Err outcome → EndsUnbuilt outcome
edit_ends (edit.Create id) outcome is = built_so outcome is
edit_ends (edit.Put id rev) outcome is = built_so outcome is
edit_ends (edit.Delete id rev) outcome is = built_so outcome is
edit_ends (edit.Resolve id revs) outcome is = built_so outcome is
edit_ends (edit.ResolveDeleted id revs) outcome is = built_so outcome is
edit_ends (edit.IndexCreate name exprs) outcome is = inr (if_usage (has_exprs exprs) outcome is)
edit_ends (edit.IndexDelete name) outcome is = built_so outcome is

built_ends : (given : Command) (outcome : Outcome) → built given ≡ Err outcome → EndsUnbuilt outcome
built_ends (command.Init name uid limit) outcome is = inr (if_usage (is_limit (limit_given limit)) outcome is)
built_ends (command.Show show) outcome is = built_so outcome is
built_ends (command.Edit edit) outcome is = edit_ends edit outcome is
built_ends command.Compact outcome is = built_so outcome is
built_ends (command.Online online) outcome is = not_yet outcome is
built_ends (command.Work seed count) outcome is = not_yet outcome is
built_ends (command.View view) outcome is = not_yet outcome is

-- ---- the run

module _ (given : Command) (seed : ℕ) (store : Store) (image : Option Image) (outside : OutsideKnown) where
  abbrev met : Occasion
  met = record {
    command = given;
    exprs = Err Memory;
    sizes = Err Memory;
    seed = seed;
    found = found_or store.found;
    lists = no_lists [] [];
    given = (took_nothing most_input outside.input).0;
  }

  same : LeavesUntouched given (record { store = store; image = image; outside = outside })
      (record { store = store; image = image; outside = outside })
  same not = (record { found = refl; crash = λ k o crashed. crashed; moment = refl; faults = refl; bytes = refl }, refl, refl)

  at_rest : (false ≡ true) ⊎ IsSettled (in_short (found_or store.found)) store
      → IsSettled (in_short (found_or store.found)) store
  at_rest = stays (found_or store.found) store store (unmoved (found_or store.found) [] store (now_so store.found))

  not_built : (outcome : Outcome) → built given ≡ Err outcome → IsRead [] [] outcome
      → ending_of outcome ≡ Answered
      → Answers [] outside.output outside.output outcome (Err outcome)
      → Carried given seed (record { store = store; image = image; outside = outside })
      (record { store = store; image = image; outside = outside }) (Err outcome)
  unfolding left_alone
  not_built outcome is read kind prints =
      let none : opens_for given (found_or store.found) (no_lists [] []) ≡ Err outcome = rw is refl in
      record {
        decided = outcome;
        a = ended outcome;
        decides = record {
          o = met;
          is_command = refl;
          is_seed = refl;
          exprs_read = tt;
          compacted = λ is. tt;
          told = told_so store.found;
          opened = false;
          read = [];
          answers = inl (record {
            lists = λ goes_on. false_not_true (rw none at goes_on);
            is = rw none refl;
            there =
                rw none refl;
          });
          does = record {
            stood = 0;
            reached = 0;
            passes = (left_alone store).keeps.passes;
            leaves = record {
              cause = rw kind (refl, refl);
              fits = none_fit (found_or store.found) [];
              front = λ no. refl;
              rest = λ no. at_rest;
              need = λ no same. needs_so store.found;
              bytes = λ no shut. refl;
            };
          };
          takes = (took_nothing most_input outside.input).1;
          is_read = rw none read;
        };
        untouched = same;
        peers = record { link = refl; door = refl };
        answers = prints;
      }

  pub unbuilt : (outcome : Outcome) → built given ≡ Err outcome
      → Carried given seed (record { store = store; image = image; outside = outside })
      (record { store = store; image = image; outside = outside }) (Err outcome)
  unbuilt outcome is =
      ⊎_elim
      (λ refused. rw refused (not_built (Refused NotBuilt) (rw refused at is) refl refl (refl, refl)))
      (λ usage. rw usage (not_built (Usage Words) (rw usage at is) refl refl (refl, refl)))
      (built_ends given outcome is)
