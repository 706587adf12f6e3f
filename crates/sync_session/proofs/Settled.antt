-- A phase that decides once makes one step or none.
use Rattle.std.proofs.Common.{◌≡◌, inl, inr, ℕ, Bool, true, false, true≢false, [], ◌∷◌, ◌++◌, Option, Some, None}
use Rattle.std.proofs.Common.{Ok, Err}
use Rattle.std.proofs.Common.{refl, sym, ap, ap₂, subst, ◌∙◌, append-nil}
use Rattle.std.proofs.lemmas.Bool.{cases_lt}
use Rattle.std.specs.Prelude.{List}
use Rattle.std.specs.Prelude.{◌<◌, ◌≤◌, if◌then◌else◌}
use Rattle.conflicts.specs.State.{History, State, Step, after_all}
use Rattle.conflicts.specs.Writing.{Answers, Decided, Refuses, kept_place, move_step}
use Rattle.translog.specs.Source.{passes}
use Rattle.replica_state.specs.Held.{meaning_of}
use Rattle.replica_core.specs.Replica.{AddsOnly, Found, Known, MayStand, Stands, Stored, state_in}
use Rattle.replica_core.specs.Replica.{stored_in}
use Rattle.replica_core.specs.Runs.{StandsAfterFirst}
use Rattle.replica_core.specs.Calls.{IsDone}
use Rattle.replica_core.specs.CallsDecide.{move_decides}
use Rattle.replica_core.specs.CallsFaults.{take_failure}
use Rattle.replica_core.specs.declared.calls.receipts.TakeFault.{TakeFault}
use Rattle.replica_core.specs.declared.calls.receipts.TakeFault.TheVariants as take
use Rattle.sync_exchange.specs.Served.{HadRoom, HasMade}
use Rattle.sync_exchange.proofs.Renamed.{renamed}
use Rattle.sync_phases.specs.Phase.{ended, unless_refused}
use Rattle.sync_phases.specs.Phases.{end_decides, known_to}
use Rattle.sync_phases.specs.Phases as phases
use Rattle.sync_phases.specs.Seen.{Exchanged}
use Rattle.u1_base.specs.Places.{Place}
use Rattle.vector_rev.specs.Counts.{Uid}
use Rattle.sync_phases.specs.declared.fault.SyncFault.{SyncFault}
use Rattle.sync_phases.specs.declared.fault.SyncFault.TheVariants.{LogCheck, Full}
use Rattle.sync_session.specs.Made.{Does, EndsSo}
use Rattle.sync_session.specs.Made.EndsSo.{whole, full, failed, stopped}
use Rattle.sync_session.specs.inner.Faults.{take_ends}

-- ---- lists

pub not_less : (a b : ℕ) → (b < a → ⊥) → a ≤ b
not_less a b never = elim (cases_lt b a) [ inl less ↦ absurd (never less) | inr most ↦ most ]

pub head_is : {A : Type 0} {x y : A} {xs ys : List A} → x ∷ xs ≡ y ∷ ys → x ≡ y
head_is e = cc

pub tail_is : {A : Type 0} {x y : A} {xs ys : List A} → x ∷ xs ≡ y ∷ ys → xs ≡ ys
tail_is e = cc

pub none_has : {A : Type 0} (before : List A) (x : A) (behind : List A) → [] ≡ before ++ x ∷ behind → ⊥
none_has [] x behind e = cc
none_has (b ∷ before) x behind e = cc

-- ---- what stands

stands_first : (s : Stored) (steps : History) (found : Found Stored) → found ≡ Stands s → StandsAfterFirst s steps found
stands_first s steps found e =
    record { first = []; others = steps; are = refl; state = s.state; is = e; holds = refl }

stands_all : (s : Stored) (steps : History) (found : Found Stored)
    → found ≡ Stands (record { state = after_all s.state steps; limit = s.limit }) → StandsAfterFirst s steps found
stands_all s steps found e = record {
  first = steps;
  others = [];
  are = sym (append-nil steps);
  state = after_all s.state steps;
  is = e;
  holds = refl;
}

pub no_room_needed : (k : Known) → HadRoom k []
no_room_needed k before x behind e = absurd (none_has before x behind e)

room_for : (k : Known) (y : Step) → (k.limit < k.need [] y → ⊥) → HadRoom k (y ∷ [])
room_for k y fits [] x behind e =
    subst (λ (z : Step). k.need [] z ≤ k.limit) (head_is e) (not_less (k.need [] y) k.limit fits)
room_for k y fits (b ∷ before) x behind e = absurd (none_has before x behind (tail_is e))

-- ---- decisions

-- what is decided, with the faults of a session
abbrev pub as_session : {A : Type 0} → Decided A TakeFault → Decided A SyncFault
as_session d = renamed (λ a. a) take_ends d

pub end_is : (target : Uid) (at : Place) (s : State)
    → end_decides target at s ≡ as_session (move_decides (known_to target at) s)
end_is target at s =
    let m = known_to target at in
    elim (passes (kept_place s m) at) as (λ b. (if b then Answers (tt {0}) (move_step s m)
    else Refuses (LogCheck (kept_place s m) at))
    ≡ as_session (if b then Answers (tt {0}) (move_step s m)
    else Refuses (take.LogCheck (kept_place s m) at))) [ true ↦ refl | false ↦ refl ]

module _ {R : Type 0} (known : R → Known) (is_open : R → Type 0) (crash : R → ℕ → Found Stored → Type 0)
    (opens : (r : R) → is_open r → (known r).opened ≡ true) where
  added : (old new : R) (P Q : Found Stored → Type 0) → ((found : Found Stored) → P found → Q found)
      → AddsOnly known crash old new P → AddsOnly known crash old new Q
  added old new P Q more adds = record {
    later = adds.later;
    same = adds.same;
    added = λ k o low high x. more o (adds.added k o low high x);
  }

  -- no step was made
  pub none_made : (all : History) (old new : R) → state_in (known new) ≡ state_in (known old) → is_open new
      → AddsOnly known crash old new (λ found. found ≡ Stands (stored_in (known old)))
      → (known new).limit ≡ (known old).limit → (known old).faults ≤ (known new).faults
      → HasMade known is_open crash old new [] all
  none_made all old new state ready adds limit later = record {
    reached = [];
    more = ([], refl);
    of_all = (all, refl);
    state = state;
    room = no_room_needed (known old);
    left = inl ready;
    settled = λ o. refl;
    any_moment = added old new _ _ (stands_first (stored_in (known old)) []) adds;
    limit = limit;
    later = later;
  }

  unwritten : (s : Stored) (step : Option Step) (found : Found Stored) → MayStand s step false found → found ≡ Stands s
  unwritten s step found (inl e) = e
  unwritten s step found (inr k) = absurd (true≢false (sym k.0))

  nothing : (s : Stored) (b : Bool) (found : Found Stored) → MayStand s None b found → found ≡ Stands s
  nothing s b found (inl e) = e
  nothing s b found (inr k) = k.1

  written : (s : Stored) (y : Step) (b : Bool) (found : Found Stored) → MayStand s (Some y) b found
      → StandsAfterFirst s (y ∷ []) found
  written s y b found (inl e) = stands_first s (y ∷ []) found e
  written s y b found (inr k) = stands_all s (y ∷ []) found k.1

  module _ {A B : Type 0} (x : A) where
    pub decided_ok : (d : Decided B TakeFault) (answer : B) (old new : R)
        → IsDone known is_open crash take_failure d old new (Ok answer)
        → Does known is_open crash (unless_refused (as_session d) (ended (Ok x))) old new (Ok x)
    decided_ok (Refuses fault) answer old new done = absurd done.ok.0
    decided_ok (Answers decided None) answer old new done = record {
      made = [];
      makes = none_made [] old new done.ok.1 done.ok.2
          (added old new _ _ (nothing (stored_in (known old)) true) done.any_moment) done.limit done.later;
      ends = whole refl refl;
      opened = λ k. done.ok.2;
    }
    decided_ok (Answers decided (Some y)) answer old new done = record {
      made = y ∷ [];
      makes = record {
        reached = y ∷ [];
        more = ([], refl);
        of_all = ([], refl);
        state = done.ok.1;
        room = room_for (known old) y (λ long. done.too_long long);
        left = inl done.ok.2;
        settled = λ o. refl;
        any_moment = added old new _ _ (written (stored_in (known old)) y true) done.any_moment;
        limit = done.limit;
        later = done.later;
      };
      ends = whole refl refl;
      opened = λ k. done.ok.2;
    }

    -- no step was made, and the replica is open
    still : (d : Decided B TakeFault) (fault : TakeFault) (step : Option Step) (old new : R)
        → IsDone known is_open crash take_failure d old new (Err fault) → is_open new
        → AddsOnly known crash old new (λ found. found ≡ Stands (stored_in (known old)))
        → EndsSo (known old) (known new) (unless_refused (as_session d) (ended (Ok x))) [] (Err (take_ends fault))
        → Does known is_open crash (unless_refused (as_session d) (ended (Ok x))) old new (Err (take_ends fault))
    still d fault step old new done ready adds ends = record {
      made = [];
      makes = none_made _ old new (ap meaning_of done.state) ready adds done.limit done.later;
      ends = ends;
      opened = λ k. ready;
    }

    pub decided_err : (d : Decided B TakeFault) (fault : TakeFault) (old new : R)
        → IsDone known is_open crash take_failure d old new (Err fault)
        → Does known is_open crash (unless_refused (as_session d) (ended (Ok x))) old new (Err (take_ends fault))
    decided_err (Refuses g) (take.LogCheck mine theirs) old new done =
        still (Refuses g) (take.LogCheck mine theirs) None old new done done.left.0
        (added old new _ _ (nothing (stored_in (known old)) false) done.any_moment)
        (whole refl (ap (λ (f : TakeFault). Err (take_ends f)) done.cause))
    decided_err (Refuses g) (take.Full need limit) old new done = absurd done.cause
    decided_err (Refuses g) take.Disk old new done = absurd done.cause
    decided_err (Refuses g) take.Memory old new done =
        still (Refuses g) take.Memory None old new done done.left.0
        (added old new _ _ (nothing (stored_in (known old)) false) done.any_moment) (stopped refl)
    decided_err (Answers a step) (take.LogCheck mine theirs) old new done = absurd done.cause
    decided_err (Answers a None) (take.Full need limit) old new done = absurd done.cause
    decided_err (Answers a (Some y)) (take.Full need limit) old new done =
        still (Answers a (Some y)) (take.Full need limit) (Some y) old new done done.left.0
        (added old new _ _ (unwritten (stored_in (known old)) (Some y)) done.any_moment)
        (full y ([], refl) done.cause.2 (ap₂ (λ (n l : ℕ). Err (Full n l)) done.cause.0 done.cause.1))
    decided_err (Answers a None) take.Disk old new done = absurd done.cause
    decided_err (Answers a (Some y)) take.Disk old new done = record {
      made = [];
      makes = record {
        reached = y ∷ [];
        more = (y ∷ [], refl);
        of_all = ([], refl);
        state = ap meaning_of done.state;
        room = no_room_needed (known old);
        left = inr (done.cause, done.left);
        settled = λ o. absurd (true≢false (sym (opens new o) ∙ done.left));
        any_moment = added old new _ _ (written (stored_in (known old)) y true) done.any_moment;
        limit = done.limit;
        later = done.later;
      };
      ends = failed done.cause done.left refl;
      opened = λ other. absurd (other refl);
    }
    decided_err (Answers a step) take.Memory old new done =
        still (Answers a step) take.Memory step old new done done.left.0
        (added old new _ _ (unwritten (stored_in (known old)) step) done.any_moment) (stopped refl)

  pub settled_ok : (x : Exchanged) (old new : R)
      → IsDone known is_open crash take_failure (move_decides (known_to x.target x.at) (state_in (known old))) old new
      (Ok (tt {0}))
      → Does known is_open crash (phases.settle x (state_in (known old))) old new (Ok x)
  settled_ok x old new done =
      let decided = move_decides (known_to x.target x.at) (state_in (known old)) in
      subst (λ d. Does known is_open crash (unless_refused d (ended (Ok x))) old new (Ok x))
      (sym (end_is x.target x.at (state_in (known old)))) (decided_ok x decided (tt {0}) old new done)

  pub settled_err : (x : Exchanged) (fault : TakeFault) (old new : R)
      → IsDone known is_open crash take_failure (move_decides (known_to x.target x.at) (state_in (known old))) old new
      (Err fault)
      → Does known is_open crash (phases.settle x (state_in (known old))) old new (Err (take_ends fault))
  settled_err x fault old new done =
      let decided = move_decides (known_to x.target x.at) (state_in (known old)) in
      subst (λ d. Does known is_open crash (unless_refused d (ended (Ok x))) old new (Err (take_ends fault)))
      (sym (end_is x.target x.at (state_in (known old)))) (decided_err x decided fault old new done)
