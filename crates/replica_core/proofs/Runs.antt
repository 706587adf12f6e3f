-- How a list of calls goes on, and what is kept of a history.
use Rattle.std.proofs.Common.{◌≡◌, ◌&&◌, inl, inr, ℕ, ◌<◌, ◌≤◌, Bool, true, false, true≢false, List, []}
use Rattle.std.proofs.Common.{◌∷◌, ◌++◌, Option, Some, None, Result, Ok, Err, refl, sym, ◌∙◌, ap, ap₂, subst, arith}
use Rattle.std.proofs.Common.{append_assoc, append-nil}
use Rattle.std.specs.Prelude.{IfOk, IfSome, option_to_list}
use Rattle.std.specs.List.{flat_map, list_all}
use Rattle.std.proofs.lemmas.List.Folds.{list_all-append}
use mathlib.Core.Bool.{and-false}
use Rattle.u1_base.specs.Causes.{Rose}
use Rattle.vector_rev.specs.Counts.{Uid}
use Rattle.conflicts.specs.Laws.{MembersAreKept, StateGoesOn}
use Rattle.conflicts.specs.State.{History, State, Step, Text, accepts_in, after_all, state_of}
use Rattle.replica_state.specs.Held.{lists_of, meaning_of}
use Rattle.replica_core.specs.Replica.{AddsOnly, Found, HasFailed, HasStep, IsLeft, IsTooLong, Known, MayStand}
use Rattle.replica_core.specs.Replica.{NeedsBehind, Stands, Stored, after_step, state_in, stored_after, stored_in}
use Rattle.conflicts.specs.Writing.{Answers, Decided, Refuses, step_in}
use Rattle.replica_core.specs.Calls.{IfFailed, IsDone, is_disk_failure, may_have_written}
use Rattle.replica_core.specs.Runs.{AllKept, AreMade, Continues, Ends, GoesOn, HaveEnded, HaveRun, IsOpenIf}
use Rattle.replica_core.specs.Runs.{StandsAfterFirst, after_call, bare, call_decides, call_failure}
use Rattle.replica_core.specs.inner.Runs.{bare_end}
use Rattle.replica_core.specs.Runs.{stays_open, step_of_call, steps_made, steps_written}
use Rattle.replica_core.specs.inner.Runs.{call_fault}
use Rattle.replica_core.specs.declared.fault.CommitFault.{CommitFault}
use Rattle.replica_core.specs.declared.fault.CommitFault.TheVariants as commit
use Rattle.replica_core.specs.declared.list.Call.{Call}
use Rattle.replica_core.specs.declared.list.CallFault.{CallFault}
use Rattle.replica_core.specs.declared.list.CallFault.TheVariants.{Refused, Full, Disk, Memory}
use Rattle.replica_core.proofs.CallsEnds.{Settled, adds_on, unchanged}
use Rattle.replica_core.proofs.CommandsDone.{after_effect}

pub if_ok : {A E : Type 0} (r : Result A E) (P Q : A → Type 0) → ((a : A) → P a → Q a) → IfOk r P → IfOk r Q
if_ok (Ok a) P Q f h = f a h
if_ok (Err e) P Q f h = tt

-- ---- a call without its answer

call_fails : (o : Option CommitFault) → call_failure (call_fault o) ≡ o
call_fails None = refl
call_fails (Some (commit.Full need limit)) = refl
call_fails (Some commit.Disk) = refl
call_fails (Some commit.Memory) = refl

caused_refusal : {F : Type 0} (old new : Known) (g f : F) (o : Option CommitFault)
    → IfFailed o (HasFailed old new None) (f ≡ g) →
    IfFailed (call_failure (call_fault o)) (HasFailed old new None) (call_fault o ≡ Refused)
caused_refusal old new g f None h = refl
caused_refusal old new g f (Some (commit.Full need limit)) h = h
caused_refusal old new g f (Some commit.Disk) h = h
caused_refusal old new g f (Some commit.Memory) h = h

caused_failure : (old new : Known) (x : Option Step) (o : Option CommitFault) → IfFailed o (HasFailed old new x) ⊥
    → IfFailed (call_failure (call_fault o)) (HasFailed old new x) ⊥
caused_failure old new x None h = absurd h
caused_failure old new x (Some (commit.Full need limit)) h = h
caused_failure old new x (Some commit.Disk) h = h
caused_failure old new x (Some commit.Memory) h = h

short_of : (first old : Known) (need limit : ℕ) (x : Option Step) → old.limit ≡ first.limit
    → HasStep x (λ x. (need ≡ old.need [] x) × (limit ≡ old.limit) × (old.limit < old.need [] x))
    → HasStep x (λ x. (limit ≡ first.limit) × (limit < need))
short_of first old need limit None e h = h
short_of first old need limit (Some x) e h =
    (h.1 ∙ e, subst (λ (n : ℕ). limit < n) (sym h.0) (subst (λ (n : ℕ). n < old.need [] x) (sym h.1) h.2))

rose_since : (first old new : Known) (x : Option Step) → first.faults ≤ old.faults
    → HasStep x (λ x. Rose old.faults new.faults) → HasStep x (λ x. Rose first.faults new.faults)
rose_since first old new None e h = h
rose_since first old new (Some x) e h = omega (arith, e, h)

-- ---- the state after steps

-- after one step, if there is one, and then more
goes : (s : State) (x : Option Step) (more : History)
    → after_all (after_step s x) more ≡ after_all s (option_to_list x ++ more)
goes s None more = refl
goes s (Some y) more = refl

-- no step was made yet
pub stops : (s : Stored) (steps : History) (found : Found Stored) → found ≡ Stands s → StandsAfterFirst s steps found
stops s steps found e = record { first = []; others = steps; are = refl; state = s.state; is = e; holds = refl }

-- the step was made, and it is the last one
made_one : (s : Stored) (x : Option Step) (more : History) (found : Found Stored) → found ≡ Stands (stored_after s x)
    → StandsAfterFirst s (option_to_list x ++ more) found
made_one s x more found e =
    record {
      first = option_to_list x;
      others = more;
      are = refl;
      state = after_step s.state x;
      is = e;
      holds = after_effect s.state x;
    }

-- it was made, and others after it
made_more : (s : Stored) (x : Option Step) (more : History) (found : Found Stored)
    → StandsAfterFirst (stored_after s x) more found → StandsAfterFirst s (option_to_list x ++ more) found
made_more s x more found r = record {
  first = option_to_list x ++ r.first;
  others = r.others;
  are = ap (λ (l : History). option_to_list x ++ l) r.are ∙ sym (append_assoc (option_to_list x) r.first r.others);
  state = r.state;
  is = r.is;
  holds = r.holds ∙ goes s.state x r.first;
}

-- a crash in a call that ended so
one_crash : (s : Stored) (c : Call) (cs : List Call) (end : Result (Unit {0}) CallFault) (more : Ends)
    (found : Found Stored) →
    MayStand s (step_of_call s.state c) (may_have_written call_failure end) found
    → StandsAfterFirst s (steps_written s.state (c ∷ cs) (end ∷ more)) found
one_crash s c cs end more found (inl e) = stops s (steps_written s.state (c ∷ cs) (end ∷ more)) found e
one_crash s c cs (Ok done) more found (inr h) =
    made_one s (step_of_call s.state c) (steps_written (after_call s.state c) cs more) found h.1
one_crash s c cs (Err Refused) more found (inr h) = absurd (true≢false (sym h.0))
one_crash s c cs (Err (Full need limit)) more found (inr h) = absurd (true≢false (sym h.0))
one_crash s c cs (Err Disk) more found (inr h) =
    made_one s (step_of_call s.state c) (steps_written (after_call s.state c) cs more) found h.1
one_crash s c cs (Err Memory) more found (inr h) = absurd (true≢false (sym h.0))

-- ---- a call without its answer, over a replica

module _ {R : Type 0} (known : R → Known) (is_open : R → Type 0) (crash : R → ℕ → Found Stored → Type 0) where
  pub bared : {A F : Type 0} (failure : F → Option CommitFault) (d : Decided A F) (old new : R) (r : Result A F) →
      IsDone known is_open crash failure d old new r
      → IsDone known is_open crash call_failure (bare d) old new (bare_end failure r)
  bared failure (Refuses g) old new (Ok a) h = absurd h.ok.0
  bared failure (Refuses g) old new (Err f) h = record {
    ok = tt;
    need = tt;
    still = h.still;
    cause = caused_refusal (known old) (known new) g f (failure f) h.cause;
    too_long = tt;
    state = h.state;
    left = subst (λ (o : Option CommitFault). IsLeft (known old) (known new) (is_open new) (is_disk_failure o))
        (sym (call_fails (failure f))) h.left;
    any_moment = subst (λ (o : Option CommitFault). AddsOnly known crash old new
        (MayStand (stored_in (known old)) None (is_disk_failure o))) (sym (call_fails (failure f))) h.any_moment;
    limit = h.limit;
    later = h.later;
  }
  bared failure (Answers b x) old new (Ok a) h = record {
    ok = (refl, h.ok.1, h.ok.2);
    need = h.need;
    still = h.still;
    cause = tt;
    too_long = h.too_long;
    state = tt;
    left = tt;
    any_moment = h.any_moment;
    limit = h.limit;
    later = h.later;
  }
  bared failure (Answers b x) old new (Err f) h = record {
    ok = tt;
    need = tt;
    still = h.still;
    cause = caused_failure (known old) (known new) x (failure f) h.cause;
    too_long = subst (λ (o : Option CommitFault). IfSome x
        (λ x. (known old).limit < (known old).need [] x → IfFailed o (IsTooLong (known old) x) ⊥))
        (sym (call_fails (failure f))) h.too_long;
    state = h.state;
    left = subst (λ (o : Option CommitFault). IsLeft (known old) (known new) (is_open new) (is_disk_failure o))
        (sym (call_fails (failure f))) h.left;
    any_moment = subst (λ (o : Option CommitFault). AddsOnly known crash old new
        (MayStand (stored_in (known old)) x (is_disk_failure o))) (sym (call_fails (failure f))) h.any_moment;
    limit = h.limit;
    later = h.later;
  }

  -- a call of a list that decides so ends so
  pub bared_to : {A F : Type 0} (failure : F → Option CommitFault) (decided : Decided A F)
      (d : Decided (Unit {0}) CallFault) (old new : R) (r : Result A F) (end : Result (Unit {0}) CallFault) →
      d ≡ bare decided → end ≡ bare_end failure r → IsDone known is_open crash failure decided old new r
      → IsDone known is_open crash call_failure d old new end
  bared_to failure decided d old new r end e is h =
      subst (λ (x : Result (Unit {0}) CallFault). IsDone known is_open crash call_failure d old new x) (sym is)
      (subst (λ (x : Decided (Unit {0}) CallFault). IsDone known is_open crash call_failure x old new
      (bare_end failure r)) (sym e) (bared failure decided old new r h))

  -- ---- the calls before, and one more

  same_state : (old new : R) → lists_of (known new).state ≡ lists_of (known old).state
      → state_in (known new) ≡ state_in (known old)
  same_state old new e = ap meaning_of e

  -- what stands now, where the limit stays
  stands_now : (old new : R) (s : State) → state_in (known new) ≡ s → (known new).limit ≡ (known old).limit
      → stored_in (known new) ≡ record { state = s; limit = (known old).limit }
  stands_now old new s e same = ap₂ (λ (s : State) (n : ℕ). record { state = s; limit = n }) e same

  abbrev pub Made : R → R → Call → Result (Unit {0}) CallFault → Type 0
  Made old new c end = IsDone known is_open crash call_failure (call_decides c (state_in (known old))) old new end

  -- the call went on
  pub next_ends : (first final : Known) (old new : R) (c : Call) (cs : List Call) (end : Result (Unit {0}) CallFault)
      (more : Ends) → (known old).limit ≡ first.limit →
      Made old new c end → stays_open end ≡ true → HaveEnded first final (state_in (known new)) cs more
      → HaveEnded first final (state_in (known old)) (c ∷ cs) (end ∷ more)
  next_ends first final old new c cs (Ok done) more e h ready rest =
      (h.ok.0, subst (λ (s : State). HaveEnded first final s cs more) h.ok.1 rest)
  next_ends first final old new c cs (Err Refused) more e h ready rest =
      (h.cause, subst (λ (s : State). HaveEnded first final s cs more) (same_state old new h.state) rest)
  next_ends first final old new c cs (Err (Full need limit)) more e h ready rest = (
    short_of first (known old) need limit (step_in (call_decides c (state_in (known old)))) e h.cause,
    subst (λ (s : State). HaveEnded first final s cs more) (same_state old new h.state) rest,
  )
  next_ends first final old new c cs (Err Disk) more e h ready rest = absurd (true≢false (sym ready))
  next_ends first final old new c cs (Err Memory) more e h ready rest =
      (tt, subst (λ (s : State). HaveEnded first final s cs more) (same_state old new h.state) rest)

  -- a disk failed
  pub last_ends : (first : Known) (old new : R) (c : Call) (cs : List Call) (end : Result (Unit {0}) CallFault)
      → first.faults ≤ (known old).faults →
      Made old new c end → stays_open end ≡ false
      → HaveEnded first (known new) (state_in (known old)) (c ∷ cs) (end ∷ [])
  last_ends first old new c cs (Ok done) e h closed = absurd (true≢false closed)
  last_ends first old new c cs (Err Refused) e h closed = absurd (true≢false closed)
  last_ends first old new c cs (Err (Full need limit)) e h closed = absurd (true≢false closed)
  last_ends first old new c cs (Err Disk) e h closed =
      (rose_since first (known old) (known new) (step_in (call_decides c (state_in (known old)))) e h.cause, refl)
  last_ends first old new c cs (Err Memory) e h closed = absurd (true≢false closed)

  -- the steps that are made with it
  pub next_state : (old new : R) (c : Call) (cs : List Call) (end : Result (Unit {0}) CallFault) (more : Ends)
      → Made old new c end →
      after_all (state_in (known new)) (steps_made (state_in (known new)) cs more)
      ≡ after_all (state_in (known old)) (steps_made (state_in (known old)) (c ∷ cs) (end ∷ more))
  next_state old new c cs (Ok done) more h =
      ap (λ (s : State). after_all s (steps_made s cs more)) h.ok.1
      ∙ goes (state_in (known old)) (step_of_call (state_in (known old)) c)
      (steps_made (after_call (state_in (known old)) c) cs more)
  next_state old new c cs (Err fault) more h =
      ap (λ (s : State). after_all s (steps_made s cs more)) (same_state old new h.state)

  -- where nothing was made, the further steps need what they needed, and a crash leaves what it left
  still_needs : (old new : R) (cs : List Call) (more : Ends) → state_in (known new) ≡ state_in (known old)
      → NeedsBehind (known old) (known new) [] → (xs : History) (y : Step) →
      (known new).need (steps_made (state_in (known new)) cs more ++ xs) y
      ≡ (known old).need (steps_made (state_in (known old)) cs more ++ xs) y
  still_needs old new cs more e need xs y =
      need (steps_made (state_in (known new)) cs more ++ xs) y
      ∙ ap (λ (s : State). (known old).need (steps_made s cs more ++ xs) y) e

  still_leaves : (old new : R) (cs : List Call) (more : Ends)
      → lists_of (known new).state ≡ lists_of (known old).state → (known new).limit ≡ (known old).limit
      → (found : Found Stored) →
      StandsAfterFirst (stored_in (known new)) (steps_written (state_in (known new)) cs more) found
      → StandsAfterFirst (stored_in (known old)) (steps_written (state_in (known old)) cs more) found
  still_leaves old new cs more e same found k =
      subst (λ (s : Stored). StandsAfterFirst s (steps_written s.state cs more) found)
      (stands_now old new (state_in (known old)) (same_state old new e) same) k

  -- and what each step needs behind them
  pub next_need : (old new : R) (c : Call) (cs : List Call) (end : Result (Unit {0}) CallFault) (more : Ends)
      → Made old new c end → stays_open end ≡ true → (xs : History) (y : Step) →
      (known new).need (steps_made (state_in (known new)) cs more ++ xs) y
      ≡ (known old).need (steps_made (state_in (known old)) (c ∷ cs) (end ∷ more) ++ xs) y
  next_need old new c cs (Ok done) more h ready xs y =
      let s = state_in (known old) in
      let step = option_to_list (step_of_call s c) in
      h.need (steps_made (state_in (known new)) cs more ++ xs) y
      ∙ ap (λ (t : State). (known old).need (step ++ (steps_made t cs more ++ xs)) y) h.ok.1
      ∙ ap (λ (l : History). (known old).need l y) (sym (append_assoc step (steps_made (after_call s c) cs more) xs))
  next_need old new c cs (Err Refused) more h ready xs y =
      still_needs old new cs more (same_state old new h.state) h.left.1 xs y
  next_need old new c cs (Err (Full need limit)) more h ready xs y =
      still_needs old new cs more (same_state old new h.state) h.left.1 xs y
  next_need old new c cs (Err Disk) more h ready xs y = absurd (true≢false (sym ready))
  next_need old new c cs (Err Memory) more h ready xs y =
      still_needs old new cs more (same_state old new h.state) h.left.1 xs y

  -- a crash in a later call
  pub next_leaves : (old new : R) (c : Call) (cs : List Call) (end : Result (Unit {0}) CallFault) (more : Ends)
      → Made old new c end → stays_open end ≡ true → (found : Found Stored) →
      StandsAfterFirst (stored_in (known new)) (steps_written (state_in (known new)) cs more) found
      → StandsAfterFirst (stored_in (known old)) (steps_written (state_in (known old)) (c ∷ cs) (end ∷ more)) found
  next_leaves old new c cs (Ok done) more h ready found k =
      made_more (stored_in (known old)) (step_of_call (state_in (known old)) c)
      (steps_written (after_call (state_in (known old)) c) cs more) found
      (subst (λ (s : Stored). StandsAfterFirst s (steps_written s.state cs more) found)
      (stands_now old new (after_call (state_in (known old)) c) h.ok.1 h.limit) k)
  next_leaves old new c cs (Err Refused) more h ready found k = still_leaves old new cs more h.state h.limit found k
  next_leaves old new c cs (Err (Full need limit)) more h ready found k =
      still_leaves old new cs more h.state h.limit found k
  next_leaves old new c cs (Err Disk) more h ready found k = absurd (true≢false (sym ready))
  next_leaves old new c cs (Err Memory) more h ready found k = still_leaves old new cs more h.state h.limit found k

  pub is_open_after : (old new : R) (c : Call) (end : Result (Unit {0}) CallFault) → Made old new c end
      → stays_open end ≡ true → is_open new
  is_open_after old new c (Ok done) h e = h.ok.2
  is_open_after old new c (Err Refused) h e = h.left.0
  is_open_after old new c (Err (Full need limit)) h e = h.left.0
  is_open_after old new c (Err Disk) h e = absurd (true≢false (sym e))
  is_open_after old new c (Err Memory) h e = h.left.0

  pub is_closed_after : (old new : R) (c : Call) (end : Result (Unit {0}) CallFault) → Made old new c end
      → stays_open end ≡ false → (known new).opened ≡ false
  is_closed_after old new c (Ok done) h e = absurd (true≢false e)
  is_closed_after old new c (Err Refused) h e = absurd (true≢false e)
  is_closed_after old new c (Err (Full need limit)) h e = absurd (true≢false e)
  is_closed_after old new c (Err Disk) h e = h.left
  is_closed_after old new c (Err Memory) h e = absurd (true≢false e)

-- ---- crashes

module _ {R : Type 0} (known : R → Known) (is_open : R → Type 0) (crash : R → ℕ → Found Stored → Type 0) where
  pub next_crash : (first old new : R) (c : Call) (cs : List Call) (end : Result (Unit {0}) CallFault) (more : Ends)
      (P : Found Stored → Type 0) →
      IsDone known is_open crash call_failure (call_decides c (state_in (known old))) old new end →
      ((found : Found Stored) → StandsAfterFirst (stored_in (known old))
      (steps_written (state_in (known old)) (c ∷ cs) (end ∷ more)) found → P found) →
      AddsOnly known crash first old P → AddsOnly known crash first new P
  next_crash first old new c cs end more P h rest before =
      adds_on known is_open crash first old new P _ P (λ o found. found)
      (λ o found. rest o (one_crash (stored_in (known old)) c cs end more o found)) before h.any_moment

-- ---- the whole list

all_open : (ends : Ends) (end : Result (Unit {0}) CallFault) → list_all stays_open ends ≡ true → stays_open end ≡ true
    → list_all stays_open (ends ++ end ∷ []) ≡ true
all_open ends end all last =
    list_all-append stays_open ends (end ∷ []) ∙ ap (λ (b : Bool). b && list_all stays_open (end ∷ [])) all
    ∙ ap (λ (b : Bool). b && true) last

not_all_open : (ends : Ends) (end : Result (Unit {0}) CallFault) → stays_open end ≡ false
    → list_all stays_open (ends ++ end ∷ []) ≡ false
not_all_open ends end last =
    list_all-append stays_open ends (end ∷ []) ∙ ap (λ (b : Bool). list_all stays_open ends && (b && true)) last
    ∙ and-false (list_all stays_open ends)

none_made : (s : State) (cs : List Call) → steps_made s cs [] ≡ []
none_made s [] = refl
none_made s (c ∷ cs) = refl

module _ {R : Type 0} (known : R → Known) (is_open : R → Type 0) (crash : R → ℕ → Found Stored → Type 0) where
  -- a crash from the one to the other leaves the state after the first of the steps of calls that end so
  abbrev pub Crashes : R → R → List Call → Ends → Type 0
  Crashes first now all ends = AddsOnly known crash first now
      (StandsAfterFirst (stored_in (known first)) (steps_written (state_in (known first)) all ends))

  -- the first calls of a list ended so, and the others are left
  pub record SoFar (first now : R) (all left : List Call) (ends : Ends) : Type 0 where
    pub ready : is_open now
    pub limit : (known now).limit ≡ (known first).limit
    pub faults : (known first).faults ≤ (known now).faults
    pub made : (final : R) (more : Ends) → AreMade known is_open crash now final left more
        → AreMade known is_open crash first final all (ends ++ more)
    pub ended : (final : Known) (more : Ends) → HaveEnded (known first) final (state_in (known now)) left more
        → HaveEnded (known first) final (state_in (known first)) all (ends ++ more)
    pub state : (more : Ends) → after_all (state_in (known now)) (steps_made (state_in (known now)) left more)
        ≡ after_all (state_in (known first)) (steps_made (state_in (known first)) all (ends ++ more))
    pub need : (more : Ends) (xs : History) (y : Step) →
        (known now).need (steps_made (state_in (known now)) left more ++ xs) y
        ≡ (known first).need (steps_made (state_in (known first)) all (ends ++ more) ++ xs) y
    pub leaves : (more : Ends) (found : Found Stored)
        → StandsAfterFirst (stored_in (known now)) (steps_written (state_in (known now)) left more) found →
        StandsAfterFirst (stored_in (known first)) (steps_written (state_in (known first)) all (ends ++ more)) found
    pub any_moment : (more : Ends) → Crashes first now all (ends ++ more)
    pub open_all : list_all stays_open ends ≡ true

  pub nothing_yet : (r : R) (all : List Call) (ends : Ends) → is_open r → Settled known is_open crash r → ends ≡ []
      → SoFar r r all all ends
  nothing_yet r all ends ready settled e = record {
    ready = ready;
    limit = refl;
    faults = omega arith;
    made = λ final more h. subst (λ (es : Ends). AreMade known is_open crash r final all (es ++ more)) (sym e) h;
    ended = λ final more h. subst (λ (es : Ends). HaveEnded (known r) final (state_in (known r)) all (es ++ more))
        (sym e) h;
    state = λ more. ap (λ (es : Ends). after_all (state_in (known r))
        (steps_made (state_in (known r)) all (es ++ more))) (sym e);
    need = λ more xs y. ap (λ (es : Ends). (known r).need
        (steps_made (state_in (known r)) all (es ++ more) ++ xs) y) (sym e);
    leaves = λ more found k. subst
        (λ (es : Ends). StandsAfterFirst (stored_in (known r))
        (steps_written (state_in (known r)) all (es ++ more)) found) (sym e) k;
    any_moment = λ more. unchanged known is_open crash r _
        (λ found h. stops (stored_in (known r)) (steps_written (state_in (known r)) all (ends ++ more)) found
        (settled found h));
    open_all = ap (λ (es : Ends). list_all stays_open es) e;
  }

  pub one_more : (first old new : R) (all : List Call) (c : Call) (cs : List Call) (ends : Ends)
      (end : Result (Unit {0}) CallFault) → SoFar first old all (c ∷ cs) ends →
      Made known is_open crash old new c end → stays_open end ≡ true → SoFar first new all cs (ends ++ end ∷ [])
  one_more first old new all c cs ends end before made ready = record {
    ready = is_open_after known is_open crash old new c end made ready;
    limit = made.limit ∙ before.limit;
    faults = omega (arith, before.faults, made.later);
    made = λ final more h. subst (λ (es : Ends). AreMade known is_open crash first final all es)
        (sym (append_assoc ends (end ∷ []) more)) (before.made final (end ∷ more) (new, made, h));
    ended = λ final more h. subst (λ (es : Ends). HaveEnded (known first) final (state_in (known first)) all es)
        (sym (append_assoc ends (end ∷ []) more))
        (before.ended final (end ∷ more)
        (next_ends known is_open crash (known first) final old new c cs end more before.limit made ready h));
    state = λ more. next_state known is_open crash old new c cs end more made ∙ before.state (end ∷ more)
        ∙ ap (λ (es : Ends). after_all (state_in (known first)) (steps_made (state_in (known first)) all es))
        (sym (append_assoc ends (end ∷ []) more));
    need = λ more xs y. next_need known is_open crash old new c cs end more made ready xs y
        ∙ before.need (end ∷ more) xs y
        ∙ ap (λ (es : Ends). (known first).need (steps_made (state_in (known first)) all es ++ xs) y)
        (sym (append_assoc ends (end ∷ []) more));
    leaves = λ more found k. subst
        (λ (es : Ends). StandsAfterFirst (stored_in (known first))
        (steps_written (state_in (known first)) all es) found) (sym (append_assoc ends (end ∷ []) more))
        (before.leaves (end ∷ more) found (next_leaves known is_open crash old new c cs end more made ready found k));
    any_moment = λ more. subst (λ (es : Ends). Crashes first new all es) (sym (append_assoc ends (end ∷ []) more))
        (next_crash known is_open crash first old new c cs end more _ made (before.leaves (end ∷ more))
        (before.any_moment (end ∷ more)));
    open_all = all_open ends end before.open_all ready;
  }

  pub the_last : (first old new : R) (all : List Call) (c : Call) (cs : List Call) (ends : Ends)
      (end : Result (Unit {0}) CallFault) → SoFar first old all (c ∷ cs) ends →
      Made known is_open crash old new c end → stays_open end ≡ false
      → HaveRun known is_open crash first new all (ends ++ end ∷ [])
  the_last first old new all c cs ends end before made closed = record {
    made = before.made new (end ∷ []) (new, made, refl);
    ended = before.ended (known new) (end ∷ [])
        (last_ends known is_open crash (known first) old new c cs end before.faults made closed);
    state = ap (after_all (state_in (known new))) (sym (none_made (state_in (known new)) cs))
        ∙ next_state known is_open crash old new c cs end [] made ∙ before.state (end ∷ []);
    need = λ all_open. absurd (true≢false (sym all_open ∙ not_all_open ends end closed));
    any_moment = next_crash known is_open crash first old new c cs end [] _ made (before.leaves (end ∷ []))
        (before.any_moment (end ∷ []));
    left = subst (λ (b : Bool). IsOpenIf b (is_open new) (known new)) (sym (not_all_open ends end closed))
        (is_closed_after known is_open crash old new c end made closed);
    limit = made.limit ∙ before.limit;
    later = omega (arith, before.faults, made.later);
  }

  pub no_more : (first now : R) (all left : List Call) (ends : Ends) → left ≡ [] → SoFar first now all left ends
      → HaveRun known is_open crash first now all ends
  no_more first now all left ends e before =
      let so : SoFar first now all [] ends = subst (λ (cs : List Call). SoFar first now all cs ends) e before in
      record {
        made = subst (λ (es : Ends). AreMade known is_open crash first now all es) (append-nil ends)
            (so.made now [] refl);
        ended = subst (λ (es : Ends). HaveEnded (known first) (known now) (state_in (known first)) all es)
            (append-nil ends) (so.ended (known now) [] refl);
        state = so.state [] ∙ ap
            (λ (es : Ends). after_all (state_in (known first)) (steps_made (state_in (known first)) all es))
            (append-nil ends);
        need = λ all_open xs y. so.need [] xs y ∙ ap
            (λ (es : Ends). (known first).need (steps_made (state_in (known first)) all es ++ xs) y)
            (append-nil ends);
        any_moment = subst (λ (es : Ends). Crashes first now all es) (append-nil ends) (so.any_moment []);
        left = subst (λ (b : Bool). IsOpenIf b (is_open now) (known now)) (sym so.open_all) so.ready;
        limit = so.limit;
        later = so.faults;
      }

-- ---- what is kept of a history

module _ (goes_on : StateGoesOn) (members : MembersAreKept) where
  continues : (name : Text) (uid : Uid) (h steps : History) (s t : State) → s ≡ state_of name uid h
      → t ≡ after_all s steps → Continues name uid h steps t
  continues name uid h steps s t e is =
      let stands : t ≡ state_of name uid (h ++ steps) = is ∙ ap (λ (u : State). after_all u steps) e
      ∙ sym (goes_on.steps name uid h steps) in
      record {
        stands = stands;
        kept = subst (λ (u : State). AllKept u (h ++ steps)) (sym stands)
            (λ doc a there. members.covered (flat_map (accepts_in doc) (h ++ steps)) a there);
      }

  module _ {R : Type 0} (known : R → Known) (is_open : R → Type 0) (crash : R → ℕ → Found Stored → Type 0) where
    pub kept : (old new : R) (calls : List Call) (ends : Ends) → HaveRun known is_open crash old new calls ends
        → GoesOn known crash old new calls ends
    kept old new calls ends run = record {
      now = λ name uid h e. continues name uid h (steps_made (state_in (known old)) calls ends) (state_in (known old))
          (state_in (known new)) e run.state;
      any_moment = λ name uid h e k found low high x.
          let r = run.any_moment.added k found low high x in
          record {
            first = r.first;
            others = r.others;
            are = r.are;
            state = r.state;
            is = r.is;
            holds = continues name uid h r.first (state_in (known old)) r.state e r.holds;
          };
    }
