-- A store that was open, once it is closed.
use Rattle.std.proofs.Common.{◌≡◌, ℕ, ◌≤◌, List, [], take, Option, Some, None, Result, true, true≢false, refl, sym, ◌∙◌, ◌∷◌}
use Rattle.std.proofs.Common.{inl, inr, ⊎_elim, arith}
use Rattle.std.specs.Prelude.{◌≢◌, ◌⊎◌}
use Rattle.cli_words.specs.declared.command.Command.{Command}
use Rattle.conflicts.specs.State.{History, Step}
use Rattle.outside.specs.Known.{OutsideKnown}
use Rattle.replica_core.specs.Replica.{Found as Left, Known, Stored}
use Rattle.command_lines.specs.Endings.{ending_of}
use Rattle.command_lines.specs.declared.outcome.Outcome.{Outcome}
use Rattle.command_lines.specs.declared.outcome.Outcome.TheVariants.{DiskFault}
use Rattle.replica_state.specs.Held.{Lists}
use Rattle.store_commands.specs.Carries.{InStore}
use Rattle.store_commands.specs.Changes.{Change, IsAfterSome, IsNeeded, IsNow, IsSettled, Made, NeedsAfter, NeedsNow}
use Rattle.store_commands.specs.Changes.{Passes, Stepped, after_all}
use Rattle.store_commands.specs.Compacting.{Image}
use Rattle.store_commands.specs.Deeds.{Answer}
use Rattle.store_commands.specs.Found.{Found, Blank, Damaged as DamagedStore, Stands, Store, in_short}
use Rattle.store_commands.specs.Found.{opened_as, standing_in}
use Rattle.store_commands.specs.Leaves.{Does, Leaves}
use Rattle.store_commands.specs.Store.{Closes, MayStay}
use Rattle.command_lines.proofs.Endings.{disk_or_not}
use Rattle.store_commands.proofs.Causes.{cause_seen}

-- each step needs of what is told what it needed of the open store, and so what it needed behind the changes
needs_told : (old open_ told : History → Step → ℕ) (changes : List Change) → NeedsAfter old changes open_
    → ((xs : History) (y : Step) → told xs y ≡ open_ xs y) → NeedsAfter old changes told
needs_told old open_ told [] first next = λ xs y. next xs y ∙ first xs y
needs_told old open_ told (Made name uid limit ∷ changes) first next = tt
needs_told old open_ told (Stepped x ∷ changes) first next = needs_told (λ xs. old (x ∷ xs)) open_ told changes first next

needs_closed : (found : Found) (changes : List Change) (known : Known) (told : Option Found)
    → IsNeeded found changes (Some (Stands (standing_in known))) → IsNeeded (Stands (standing_in known)) [] told
    → IsNeeded found changes told
needs_closed found changes known None first next = tt
needs_closed Blank changes known (Some told) first next = tt
needs_closed (DamagedStore disk place) changes known (Some told) first next = tt
needs_closed (Stands x) changes known (Some Blank) first next = tt
needs_closed (Stands x) changes known (Some (DamagedStore disk place)) first next = tt
needs_closed (Stands x) changes known (Some (Stands y)) first next = needs_told x.need known.need y.need changes first next

module _ (found : Found) (a : Answer) (unread : Type 0) (before : Store) (known : Known)
    (crash : ℕ → Left Stored → Type 0) (is_open : Type 0) (after : Store)
    (at_rest : IsSettled (in_short found) before) (closes : Closes known crash is_open after)
    (may : MayStay after after.found) where
  -- what is told is what stands after some of the changes
  told_some : (stood reached : ℕ) (told : Found)
      → Passes found a.changes stood reached before (opened_as known crash)
      → after.crash after.moment (in_short told)
      → IsAfterSome (in_short found) a.changes reached (in_short told)
  told_some stood reached told passes crashed =
      let there : crash known.moment (in_short told) =
      rw closes.moment at (closes.leaves after.moment (in_short told) crashed) in
      ⊎_elim
      (λ early. (0, omega arith, at_rest (in_short told) early))
      (λ some. some)
      (passes.since known.moment (in_short told) passes.later (omega arith) there)

  -- the changes that pass, with what is told of the closed store
  pub passes_closed : (stood stood2 reached : ℕ) → stood2 ≤ reached
      → Passes found a.changes stood reached before (opened_as known crash)
      → IsNow (after_all (in_short found) (take stood2 a.changes)) after.found
      → Passes found a.changes stood2 reached before after
  passes_closed stood stood2 reached low passes now = record {
    stood_reached = low;
    within = passes.within;
    later = omega (arith, passes.later, closes.moment);
    earlier = λ k o early crashed. passes.earlier k o early (closes.leaves k o crashed);
    since = λ k o from to crashed. passes.since k o from (omega (arith, to, closes.moment)) (closes.leaves k o crashed);
    now = now;
    faults = omega (arith, passes.faults, closes.faults);
  }

  -- where a crash leaves just what stands, that is what is told
  now_settled : (stood : ℕ) (found_now : Option Found) → after.found ≡ found_now
      → IsSettled (after_all (in_short found) (take stood a.changes)) (opened_as known crash)
      → IsNow (after_all (in_short found) (take stood a.changes)) found_now
  now_settled stood None is settled = tt
  now_settled stood (Some told) is settled =
      let stays : after.crash after.moment (in_short told) = rw is at may in
      settled (in_short told) (rw closes.moment at (closes.leaves after.moment (in_short told) stays))

  closed_settled : (stood : ℕ)
      → IsSettled (after_all (in_short found) (take stood a.changes)) (opened_as known crash)
      → IsSettled (after_all (in_short found) (take stood a.changes)) after
  closed_settled stood settled o crashed = settled o (rw closes.moment at (closes.leaves after.moment o crashed))

  -- where a disk failed some of the changes stand
  now_some : (stood reached : ℕ) (found_now : Option Found) → after.found ≡ found_now
      → Passes found a.changes stood reached before (opened_as known crash)
      → (stood2 : ℕ) × (stood2 ≤ reached) × IsNow (after_all (in_short found) (take stood2 a.changes)) found_now
  now_some stood reached None is passes = (stood, passes.stood_reached, tt)
  now_some stood reached (Some told) is passes =
      let stays : after.crash after.moment (in_short told) = rw is at may in
      told_some stood reached told passes stays

  module _ (stood reached : ℕ) (passes : Passes found a.changes stood reached before (opened_as known crash))
      (decided : Outcome) (ready : decided ≢ DiskFault → is_open)
      (leaves : Leaves found true a unread stood reached before (opened_as known crash) decided) where
    -- no disk failed: the changes that stood are told
    whole : decided ≢ DiskFault → Does found true a unread before after decided
    whole other =
        let settled = leaves.rest other (inl refl) in
        record {
          stood = stood;
          reached = reached;
          passes = passes_closed stood stood reached passes.stood_reached passes
              (now_settled stood after.found refl settled);
          leaves = record {
            cause = cause_seen found true a unread unread stood reached before (opened_as known crash) before after
                (λ rose. rw closes.faults rose) (λ read. read) decided (ending_of decided) leaves.cause;
            fits = leaves.fits;
            front = leaves.front;
            rest = λ no rests. closed_settled stood settled;
            need = λ no same. needs_closed found (take stood a.changes) known after.found (leaves.need other same)
                (closes.need (ready other));
            bytes = λ no shut. absurd (true≢false shut);
          };
        }

    -- one failed: some of them are
    broken : decided ≡ DiskFault → Does found true a unread before after decided
    broken is =
        let now = now_some stood reached after.found refl passes in
        record {
          stood = now.0;
          reached = reached;
          passes = passes_closed stood now.0 reached now.1 passes now.2;
          leaves = record {
            cause = rw is (rw closes.faults (rw is at leaves.cause));
            fits = leaves.fits;
            front = λ no. absurd (no is);
            rest = λ no. absurd (no is);
            need = λ no. absurd (no is);
            bytes = λ no. absurd (no is);
          };
        }

  pub closed : (decided : Outcome) → (decided ≢ DiskFault → is_open)
      → Does found true a unread before (opened_as known crash) decided
      → Does found true a unread before after decided
  closed decided ready does =
      ⊎_elim
      (λ disk. broken does.stood does.reached does.passes decided ready does.leaves disk)
      (λ other. whole does.stood does.reached does.passes decided ready does.leaves other)
      (disk_or_not decided)

-- a command in the store, once it is closed
pub within_closed : (command : Command) (seed : ℕ) (found : Found) (lists : Lists)
    (image_before image_open image_after : Option Image) (before : Store) (known : Known)
    (crash : ℕ → Left Stored → Type 0) (is_open : Type 0) (after : Store)
    (outside_before outside_after : OutsideKnown) (result : Result (Unit {0}) Outcome)
    → IsSettled (in_short found) before → Closes known crash is_open after → MayStay after after.found
    → image_after ≡ image_open
    → InStore command seed is_open found lists image_before image_open before
    (opened_as known crash) outside_before outside_after result
    → InStore command seed (Unit {0}) found lists image_before image_after before after
    outside_before outside_after result
within_closed command seed found lists image_before image_open image_after before known crash is_open after
    outside_before outside_after result
    at_rest closes may same within = record {
      decided = within.decided;
      exprs = within.exprs;
      exprs_read = within.exprs_read;
      sizes = within.sizes;
      compacted = λ is. rw same (within.compacted is);
      given = within.given;
      read = within.read;
      a = within.a;
      is = within.is;
      store = closed found within.a _ before known crash is_open after at_rest closes may within.decided within.ready
          within.store;
      ready = λ no. tt;
      input = within.input;
      is_read = within.is_read;
      peers = within.peers;
      answers = within.answers;
    }
