-- How a call ends: without a commit, or as its commit ends.
use Rattle.std.proofs.Common.{◌≡◌, ◌⊎◌, inl, inr, ⊎_elim, ℕ, ◌<◌, ◌≤◌, [], Option, Some, None, Ok, Err, refl, sym}
use Rattle.std.proofs.Common.{subst, arith}
use Rattle.std.specs.Prelude.{IfNone, IfSome}
use Rattle.conflicts.specs.State.{Step}
use Rattle.replica_core.specs.Replica.{AddsOnly, Found, HasFailed, IsLeft, IsTooLong, Known, MayStand, Stands}
use Rattle.replica_core.specs.Replica.{Stored, stored_in}
use Rattle.conflicts.specs.Writing.{Answers, Decided, IsRefusal, Refuses, step_in}
use Rattle.replica_core.specs.Calls.{IfFailed, IsDone, is_disk_failure}
use Rattle.replica_core.specs.CallsChecks.{IsUndone}
use Rattle.replica_core.specs.CallsFaults.{commit_failure}
use Rattle.replica_core.specs.declared.fault.CommitFault.{CommitFault}

-- an answer with a step, of these types
abbrev pub answer_with : {A F : Type 0} → A → Option Step → Decided A F
answer_with answer step = Answers answer step

if_each : (o : Option Step) (P : Step → Type 0) → ((x : Step) → P x) → IfSome o P
if_each None P all = tt
if_each (Some x) P all = all x

if_none : (o : Option Step) (P : Type 0) → P → IfNone o P
if_none None P h = h
if_none (Some x) P h = tt

no_step : {A F : Type 0} (d : Decided A F) (fault : F) (P : Step → Type 0) → IsRefusal d fault → IfSome (step_in d) P
no_step (Refuses f) fault P is = tt
no_step (Answers a x) fault P is = absurd is

module _ {R : Type 0} (known : R → Known) (is_open : R → Type 0) (crash : R → ℕ → Found Stored → Type 0) where
  -- a crash of an open replica leaves just its state
  abbrev pub Settled : R → Type 0
  Settled r = (found : Found Stored) → crash r (known r).moment found → found ≡ Stands (stored_in (known r))

  -- where nothing happens no crash is added
  pub unchanged : (r : R) (P : Found Stored → Type 0)
      → ((found : Found Stored) → crash r (known r).moment found → P found) → AddsOnly known crash r r P
  unchanged r P here = record {
    later = omega arith;
    same = λ k o low h. h;
    added = λ k o low high h. let e : k ≡ (known r).moment = omega (arith, low, high)
        in here o (subst (λ (j : ℕ). crash r j o) e h);
  }

  -- what two calls, the one after the other, allow each is allowed of both
  pub adds_on : (old mid new : R) (P Q T : Found Stored → Type 0) → ((found : Found Stored) → P found → T found)
      → ((found : Found Stored) → Q found → T found) →
      AddsOnly known crash old mid P → AddsOnly known crash mid new Q → AddsOnly known crash old new T
  adds_on old mid new P Q T first then one two = record {
    later = omega (arith, one.later, two.later);
    same = λ k o low x. one.same k o low (two.same k o (omega (arith, low, one.later)) x);
    added = λ k o low high x. ⊎_elim
        (λ earlier. first o (one.added k o low (omega (arith, earlier)) (two.same k o earlier x)))
        (λ since. then o (two.added k o since high x)) (split k (known mid).moment);
  }
    where
      split : (a b : ℕ) → (a < b) ⊎ (b ≤ a)
      split a b = grind arith

  module _ {A F : Type 0} (failure : F → Option CommitFault) where
    -- an answer that needs no step
    pub answered : (r : R) (d : Decided A F) (answer : A) → is_open r → Settled r → d ≡ Answers answer None
        → IsDone known is_open crash failure d r r (Ok answer)
    answered r d answer ready settled e =
        subst (λ (d : Decided A F). IsDone known is_open crash failure d r r (Ok answer)) (sym e) (record {
          ok = (refl, refl, ready);
          need = λ xs y. refl;
          still = refl;
          cause = tt;
          too_long = tt;
          state = tt;
          left = tt;
          any_moment = unchanged r _ (λ o h. inl (settled o h));
          limit = refl;
          later = omega arith;
        })

    -- a fault before the commit
    pub undone : (r : R) (d : Decided A F) (fault : F) → is_open r → Settled r → IsUndone failure d fault
        → IsDone known is_open crash failure d r r (Err fault)
    undone r d fault ready settled why = record {
      ok = tt;
      need = tt;
      still = if_none (step_in d) _ refl;
      cause = caused why;
      too_long = short why;
      state = refl;
      left = left why;
      any_moment = unchanged r _ (λ o h. inl (settled o h));
      limit = refl;
      later = omega arith;
    }
      where
        caused : IsUndone failure d fault
            → IfFailed (failure fault) (HasFailed (known r) (known r) (step_in d)) (IsRefusal d fault)
        caused (inl e) = subst (λ (o : Option CommitFault). IfFailed o (HasFailed (known r) (known r) (step_in d))
            (IsRefusal d fault)) (sym e) tt
        caused (inr h) = subst (λ (o : Option CommitFault). IfFailed o (HasFailed (known r) (known r) (step_in d))
            (IsRefusal d fault)) (sym h.0) h.1

        short : IsUndone failure d fault
            → IfSome (step_in d) (λ x. (known r).limit < (known r).need [] x
            → IfFailed (failure fault) (IsTooLong (known r) x) ⊥)
        short (inl e) = if_each (step_in d) _
            (λ x long. subst (λ (o : Option CommitFault). IfFailed o (IsTooLong (known r) x) ⊥) (sym e) (inr refl))
        short (inr h) = no_step d fault _ h.1

        left : IsUndone failure d fault → IsLeft (known r) (known r) (is_open r) (is_disk_failure (failure fault))
        left (inl e) = subst (λ (o : Option CommitFault). IsLeft (known r) (known r) (is_open r) (is_disk_failure o))
            (sym e) (ready, λ xs y. refl)
        left (inr h) = subst (λ (o : Option CommitFault). IsLeft (known r) (known r) (is_open r) (is_disk_failure o))
            (sym h.0) (ready, λ xs y. refl)

    -- what ends a call is what ends its commit
    pub done_ok : (old new : R) (d : Decided A F) (answer given : A) (step : Option Step) → d ≡ Answers answer step →
        IsDone known is_open crash commit_failure (Answers answer step) old new (Ok given)
        → IsDone known is_open crash failure d old new (Ok given)
    done_ok old new d answer given step e h =
        subst (λ (d : Decided A F). IsDone known is_open crash failure d old new (Ok given)) (sym e) (record {
          ok = h.ok;
          need = h.need;
          still = h.still;
          cause = tt;
          too_long = h.too_long;
          state = tt;
          left = tt;
          any_moment = h.any_moment;
          limit = h.limit;
          later = h.later;
        })

    pub done_err : (old new : R) (d : Decided A F) (answer : A) (step : Option Step) (f : CommitFault) (fault : F)
        → d ≡ Answers answer step → failure fault ≡ Some f →
        IsDone known is_open crash commit_failure (Answers answer step) old new (Err f)
        → IsDone known is_open crash failure d old new (Err fault)
    done_err old new d answer step f fault e is h =
        subst (λ (d : Decided A F). IsDone known is_open crash failure d old new (Err fault)) (sym e) (record {
          ok = tt;
          need = tt;
          still = h.still;
          cause = subst (λ (o : Option CommitFault). IfFailed o (HasFailed (known old) (known new) step) ⊥)
              (sym is) h.cause;
          too_long = subst (λ (o : Option CommitFault). IfSome step
              (λ x. (known old).limit < (known old).need [] x → IfFailed o (IsTooLong (known old) x) ⊥))
              (sym is) h.too_long;
          state = h.state;
          left = subst (λ (o : Option CommitFault). IsLeft (known old) (known new) (is_open new) (is_disk_failure o))
              (sym is) h.left;
          any_moment = subst (λ (o : Option CommitFault). AddsOnly known crash old new
              (MayStand (stored_in (known old)) step (is_disk_failure o))) (sym is) h.any_moment;
          limit = h.limit;
          later = h.later;
        })
