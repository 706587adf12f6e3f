-- The exits of a command over an open replica, whatever it does.
use Rattle.std.proofs.Common.{◌≡◌, ℕ, zero, suc, ◌<◌, ◌≤◌, List, [], ◌∷◌, Some, Result, Ok, Err, true, false, refl, ap}
use Rattle.std.proofs.Common.{◌∙◌, inr, true≢false, ⊎_elim, arith}
use Rattle.std.specs.Prelude.{◌≢◌, IsTrue}
use Rattle.u1_base.specs.Causes.{Rose}
use Rattle.conflicts.specs.State.{State, Step, after}
use Rattle.link.specs.Streams.{Output}
use Rattle.replica_core.specs.Replica.{AddsOnly, Found as Left, Known, MayStand, NeedsBehind, Stands as LeftStands, Stored}
use Rattle.replica_core.specs.Replica.{state_in, stored_in}
use Rattle.replica_state.specs.Held.{Lists, lists_of, meaning_of}
use Rattle.command_lines.specs.Endings.{Answered, ending_of}
use Rattle.command_lines.specs.declared.outcome.Outcome.{Outcome}
use Rattle.command_lines.specs.declared.outcome.Outcome.TheVariants.{Done, Refused, StoreFull, DiskFault, Memory}
use Rattle.command_lines.specs.declared.outcome.Refusal.{Refusal}
use Rattle.store_commands.specs.Carries.{Carries, found_open}
use Rattle.store_commands.specs.Changes.{Change, IsAfterSome, IsSettled, Passes, Stepped}
use Rattle.store_commands.specs.Deeds.{Answer, done_with, ended}
use Rattle.store_commands.specs.Found.{Store, in_short, opened_as}
use Rattle.store_commands.specs.Leaves.{Cause, Fit, Leaves}
use Rattle.store_commands.specs.Prints.{PutsPart}
use Rattle.store_commands.proofs.Moving.{none_fit, open_now, unmoved}

pub no_step : {x : Change} (rest : List Change) → ◌≡◌ {A = List Change} [] (x ∷ rest) → ⊥
no_step rest is = cc

-- one step and a text
abbrev pub writes : Step → List ℕ → Answer
writes x text = done_with (Stepped x ∷ []) text

-- a text alone
abbrev pub only : List ℕ → Answer
only text = done_with [] text

same_stored : (s t : State) (l m : ℕ) → s ≡ t → l ≡ m
    → ◌≡◌ {A = Left Stored} (LeftStands (record { state = s; limit = l })) (LeftStands (record { state = t; limit = m }))
same_stored s t l m state limit = rw (state, limit) refl

-- a step that is within the limit
pub one_fits : (known : Known) (x : Step) → (known.limit < known.need [] x → ⊥)
    → Fit (found_open known) (Stepped x ∷ []) 1
one_fits known x fits zero need limit low over =
    let same : x ≡ over.0 = cc over.2 in fits (rw same over.3.2)
one_fits known x fits (suc n) need limit low over = absurd (omega (arith, low))

module _ {R : Type 0} (known : R → Known) (is_open : R → Type 0) (crash : R → ℕ → Left Stored → Type 0)
    (settled : (r : R) (o : Left Stored) → is_open r → crash r (known r).moment o
    → o ≡ LeftStands (stored_in (known r))) where
  abbrev pub seen : R → Store
  seen r = opened_as (known r) (crash r)

  -- it is open, so a crash leaves its state
  pub at_rest : (r : R) → is_open r → IsSettled (in_short (found_open (known r))) (seen r)
  at_rest r ready = λ o crashed. settled r o ready crashed

  -- ---- nothing moved

  -- what is left of a store that no change was made in
  pub unchanged : (a : Answer) (unread : Type 0) (old new : R) (outcome : Outcome) → is_open new
      → LeftStands (stored_in (known new)) ≡ LeftStands (stored_in (known old)) → NeedsBehind (known old) (known new) []
      → Cause (found_open (known old)) true a unread 0 0 (seen old) (seen new) outcome (ending_of outcome)
      → Leaves (found_open (known old)) true a unread 0 0 (seen old) (seen new) outcome
  unchanged a unread old new outcome ready stored need cause = record {
    cause = cause;
    fits = none_fit (found_open (known old)) a.changes;
    front = λ no. refl;
    rest = λ no rests o crashed. settled new o ready crashed ∙ stored;
    need = λ no same xs y. need xs y;
    bytes = λ no shut. absurd (true≢false shut);
  }

  pub resting : (a : Answer) (unread : Type 0) (r : R) (outcome : Outcome) → is_open r
      → Cause (found_open (known r)) true a unread 0 0 (seen r) (seen r) outcome (ending_of outcome)
      → Leaves (found_open (known r)) true a unread 0 0 (seen r) (seen r) outcome
  resting a unread r outcome ready cause = unchanged a unread r r outcome ready refl (λ xs y. refl) cause

  pub declined : (a : Answer) (end : Outcome) (r : R) (out : Output) → is_open r → ending_of end ≡ Answered
      → a ≡ ended end → Carries known is_open crash a r r out out (Err end)
  declined a end r out ready kind is = record {
    decided = end;
    ready = λ no. ready;
    does = record {
      stood = 0;
      reached = 0;
      passes = unmoved (found_open (known r)) a.changes (seen r) (open_now (known r));
      leaves = resting a ⊥ r end ready (rw kind (rw is (refl, refl)));
    };
    answers = rw kind (refl, refl);
  }

  pub refused : (a : Answer) (refusal : Refusal) (r : R) (out : Output) → is_open r
      → a ≡ ended (Refused refusal)
      → Carries known is_open crash a r r out out (Err (Refused refusal))
  refused a refusal r out ready is = declined a (Refused refusal) r out ready refl is

  pub starved : (a : Answer) (r : R) (out : Output) → is_open r
      → Carries known is_open crash a r r out out (Err Memory)
  starved a r out ready = record {
    decided = Memory;
    ready = λ no. ready;
    does = record {
      stood = 0;
      reached = 0;
      passes = unmoved (found_open (known r)) a.changes (seen r) (open_now (known r));
      leaves = resting a ⊥ r Memory ready tt;
    };
    answers = (refl, refl);
  }

  pub only_printed : (a : Answer) (text : List ℕ) (r : R) (out_before out_after : Output)
      (result : Result (Unit {0}) Outcome) → is_open r → a ≡ only text
      → PutsPart text out_before out_after result → Carries known is_open crash a r r out_before out_after result
  only_printed a text r out_before out_after result ready is puts = rw is (record {
    decided = Done;
    ready = λ no. ready;
    does = record {
      stood = 0;
      reached = 0;
      passes = unmoved (found_open (known r)) [] (seen r) (open_now (known r));
      leaves = resting (only text) ⊥ r Done ready (refl, refl);
    };
    answers = puts;
  })

  -- ---- one step

  -- what a crash leaves of a step that may have been written
  may_be_written : (s : Stored) (x : Step) (o : Left Stored) → MayStand s (Some x) true o
      → IsAfterSome (LeftStands s) (Stepped x ∷ []) 1 o
  may_be_written s x o may = ⊎_elim (λ (old : o ≡ LeftStands s). (0, omega arith, old))
      (λ new. (1, omega arith, new.1)) may

  not_written : (s : Stored) (x : Step) (o : Left Stored) → MayStand s (Some x) false o
      → IsAfterSome (LeftStands s) (Stepped x ∷ []) 0 o
  not_written s x o may = ⊎_elim (λ (old : o ≡ LeftStands s). (0, omega arith, old))
      (λ new. absurd (is_false new.0)) may
    where
      is_false : IsTrue false → ⊥
      is_false h = cc

  module _ (x : Step) (old new : R) (limit : (known new).limit ≡ (known old).limit)
      (later : (known old).faults ≤ (known new).faults) where
    pub stepped : state_in (known new) ≡ after (state_in (known old)) x
        → AddsOnly known crash old new (MayStand (stored_in (known old)) (Some x) true)
        → Passes (found_open (known old)) (Stepped x ∷ []) 1 1 (seen old) (seen new)
    stepped state adds = record {
      stood_reached = omega arith;
      within = omega arith;
      later = adds.later;
      earlier = adds.same;
      since = λ k o from to crashed. inr (may_be_written (stored_in (known old)) x o (adds.added k o from to crashed));
      now = same_stored _ _ _ _ state limit;
      faults = later;
    }

    same_state : lists_of (known new).state ≡ lists_of (known old).state
        → LeftStands (stored_in (known new)) ≡ LeftStands (stored_in (known old))
    same_state same = same_stored _ _ _ _ (ap (λ (l : Lists). meaning_of l) same) limit

    pub not_stepped : lists_of (known new).state ≡ lists_of (known old).state
        → AddsOnly known crash old new (MayStand (stored_in (known old)) (Some x) false)
        → Passes (found_open (known old)) (Stepped x ∷ []) 0 0 (seen old) (seen new)
    not_stepped same adds = record {
      stood_reached = omega arith;
      within = omega arith;
      later = adds.later;
      earlier = adds.same;
      since = λ k o from to crashed. inr (not_written (stored_in (known old)) x o (adds.added k o from to crashed));
      now = same_state same;
      faults = later;
    }

    pub half_stepped : lists_of (known new).state ≡ lists_of (known old).state
        → AddsOnly known crash old new (MayStand (stored_in (known old)) (Some x) true)
        → Passes (found_open (known old)) (Stepped x ∷ []) 0 1 (seen old) (seen new)
    half_stepped same adds = record {
      stood_reached = omega arith;
      within = omega arith;
      later = adds.later;
      earlier = adds.same;
      since = λ k o from to crashed. inr (may_be_written (stored_in (known old)) x o (adds.added k o from to crashed));
      now = same_state same;
      faults = later;
    }

    pub committed : (a : Answer) (text : List ℕ) (out_before out_after : Output)
        (result : Result (Unit {0}) Outcome)
        → a ≡ writes x text → ((known old).limit < (known old).need [] x → ⊥) → is_open new
        → state_in (known new) ≡ after (state_in (known old)) x → NeedsBehind (known old) (known new) (x ∷ [])
        → AddsOnly known crash old new (MayStand (stored_in (known old)) (Some x) true)
        → PutsPart text out_before out_after result
        → Carries known is_open crash a old new out_before out_after result
    committed a text out_before out_after result is fits ready state need adds puts = rw is (record {
      decided = Done;
      ready = λ no. ready;
      does = record {
        stood = 1;
        reached = 1;
        passes = stepped state adds;
        leaves = record {
          cause = (refl, refl);
          fits = one_fits (known old) x fits;
          front = λ no. refl;
          rest = λ no rests o crashed. settled new o ready crashed ∙ same_stored _ _ _ _ state limit;
          need = λ no same xs y. need xs y;
          bytes = λ no shut. absurd (true≢false shut);
        };
      };
      answers = puts;
    })

    pub too_long : (a : Answer) (text : List ℕ) (need most : ℕ) (out : Output)
        → a ≡ writes x text → is_open new → NeedsBehind (known old) (known new) []
        → lists_of (known new).state ≡ lists_of (known old).state
        → AddsOnly known crash old new (MayStand (stored_in (known old)) (Some x) false)
        → (need ≡ (known old).need [] x) × (most ≡ (known old).limit) × ((known old).limit < (known old).need [] x)
        → Carries known is_open crash a old new out out (Err (StoreFull need most))
    too_long a text need most out is ready needs same adds over = rw is (record {
      decided = StoreFull need most;
      ready = λ no. ready;
      does = record {
        stood = 0;
        reached = 0;
        passes = not_stepped same adds;
        leaves = unchanged (writes x text) ⊥ old new (StoreFull need most) ready (same_state same) needs
            (x, [], refl, over);
      };
      answers = (refl, refl);
    })

    pub disk_failed : (a : Answer) (text : List ℕ) (out : Output)
        → a ≡ writes x text → ((known old).limit < (known old).need [] x → ⊥)
        → lists_of (known new).state ≡ lists_of (known old).state
        → AddsOnly known crash old new (MayStand (stored_in (known old)) (Some x) true)
        → Rose (known old).faults (known new).faults
        → Carries known is_open crash a old new out out (Err DiskFault)
    disk_failed a text out is fits same adds rose = rw is (record {
      decided = DiskFault;
      ready = λ no. absurd (no refl);
      does = record {
        stood = 0;
        reached = 1;
        passes = half_stepped same adds;
        leaves = record {
          cause = rose;
          fits = one_fits (known old) x fits;
          front = λ no. absurd (no refl);
          rest = λ no. absurd (no refl);
          need = λ no. absurd (no refl);
          bytes = λ no. absurd (no refl);
        };
      };
      answers = (refl, refl);
    })

    pub gave_up : (a : Answer) (text : List ℕ) (out : Output)
        → a ≡ writes x text → is_open new → NeedsBehind (known old) (known new) []
        → lists_of (known new).state ≡ lists_of (known old).state
        → AddsOnly known crash old new (MayStand (stored_in (known old)) (Some x) false)
        → Carries known is_open crash a old new out out (Err Memory)
    gave_up a text out is ready needs same adds = rw is (record {
      decided = Memory;
      ready = λ no. ready;
      does = record {
        stood = 0;
        reached = 0;
        passes = not_stepped same adds;
        leaves = unchanged (writes x text) ⊥ old new Memory ready (same_state same) needs tt;
      };
      answers = (refl, refl);
    })
