-- Loops that stage steps and flush them: what one more call of the loop leaves.
use Rattle.std.proofs.Common.{◌≡◌, inl, inr, ℕ, ◌≤◌, Bool, [], ◌∷◌, ◌++◌, Option}
use Rattle.std.proofs.Common.{Ok, Err, refl, sym, ◌∙◌, ap, ap₂, subst, arith, append_assoc, append-nil}
use Rattle.std.specs.Prelude.{option_to_list}
use Rattle.conflicts.specs.State.{History, State, after, after_all}
use Rattle.conflicts.specs.Writing.{Decided, step_in}
use Rattle.replica_state.specs.Held.{lists_of, meaning_of}
use Rattle.replica_core.specs.Replica.{AddsOnly, Found, IsLeft, Known, NeedsBehind, Stands, StandsAsEither}
use Rattle.replica_core.specs.Replica.{Stored, state_in, stored_as, stored_in}
use Rattle.replica_core.specs.Runs.{StandsAfterFirst}
use Rattle.replica_core.specs.Staging.{HasStaged, Stages}
use Rattle.replica_core.specs.declared.fault.CommitFault.{CommitFault}
use Rattle.replica_core.proofs.CallsEnds.{Settled, adds_on, unchanged}
use Rattle.replica_core.proofs.CommandsDone.{after_effect}

-- ---- what a crash leaves

-- further steps only add to what a crash may leave
pub with_more : (s : Stored) (steps more : History) (found : Found Stored) → StandsAfterFirst s steps found
    → StandsAfterFirst s (steps ++ more) found
with_more s steps more found r = record {
  first = r.first;
  others = r.others ++ more;
  are = ap (λ (l : History). l ++ more) r.are ∙ append_assoc r.first r.others more;
  state = r.state;
  is = r.is;
  holds = r.holds;
}

-- the state after all of the steps
stands_after : (s : Stored) (steps : History) (found : Found Stored)
    → found ≡ Stands (record { state = after_all s.state steps; limit = s.limit }) → StandsAfterFirst s steps found
stands_after s steps found e =
    record {
      first = steps;
      others = [];
      are = sym (append-nil steps);
      state = after_all s.state steps;
      is = e;
      holds = refl;
    }

-- the state after further steps
after_more : (steps : History) (s : State) (more : History)
    → after_all s (steps ++ more) ≡ after_all (after_all s steps) more
after_more [] s more = refl
after_more (x ∷ steps) s more = after_more steps (after s x) more

module _ {R : Type 0} (known : R → Known) (stages : R → State → Type 0) (crash : R → ℕ → Found Stored → Type 0) where
  -- what is kept stands after the first of the steps
  kept_stands : (first now : R) (steps : History) (has : HasStaged known stages crash first now steps)
      (found : Found Stored) → found ≡ Stands (stored_as (known now) (after_all (state_in (known first)) has.flushed))
      → StandsAfterFirst (stored_in (known first)) steps found
  kept_stands first now steps has found e = record {
    first = has.flushed;
    others = has.staged;
    are = has.are;
    state = after_all (state_in (known first)) has.flushed;
    is = e ∙ ap (λ (n : ℕ). Stands (record {
      state = after_all (state_in (known first)) has.flushed;
      limit = n;
    })) has.limit;
    holds = refl;
  }

  -- and so does what stands now
  now_stands : (first now : R) (steps : History) → HasStaged known stages crash first now steps
      → (found : Found Stored) → found ≡ Stands (stored_in (known now))
      → StandsAfterFirst (stored_in (known first)) steps found
  now_stands first now steps has found e =
      stands_after (stored_in (known first)) steps found
      (e ∙ ap₂ (λ (s : State) (n : ℕ). Stands (record { state = s; limit = n })) has.state has.limit)

  -- ---- the loop

  -- before its first call
  pub none_yet : (r : R) → stages r (state_in (known r)) → Settled known (λ r. stages r (state_in (known r))) crash r
      → HasStaged known stages crash r r []
  none_yet r kept settled = record {
    flushed = [];
    staged = [];
    are = refl;
    state = refl;
    need = λ xs y. refl;
    kept = kept;
    any_moment = unchanged known (λ r. stages r (state_in (known r))) crash r _
        (λ found h. stands_after (stored_in (known r)) [] found (settled found h));
    limit = refl;
    faults = omega arith;
  }

  module _ {A F : Type 0} (failure : F → Option CommitFault) where
    -- a call made its step
    pub one_staged : (first old new : R) (steps : History) (d : Decided A F) (answer : A)
        → HasStaged known stages crash first old steps
        → Stages known stages crash failure d old new (Ok answer)
        → HasStaged known stages crash first new (steps ++ option_to_list (step_in d))
    one_staged first old new steps d answer has call =
        let one = call (after_all (state_in (known first)) has.flushed) has.kept in
        let step = option_to_list (step_in d) in
        record {
          flushed = has.flushed;
          staged = has.staged ++ step;
          are = ap (λ (l : History). l ++ step) has.are ∙ append_assoc has.flushed has.staged step;
          state = one.done.ok.1 ∙ after_effect (state_in (known old)) (step_in d)
              ∙ ap (λ (s : State). after_all s step) has.state
              ∙ sym (after_more steps (state_in (known first)) step);
          need = λ xs y. one.done.need xs y ∙ has.need (step ++ xs) y
              ∙ ap (λ (l : History). (known first).need l y) (sym (append_assoc steps step xs));
          kept = one.done.ok.2;
          any_moment = adds_on known (λ r. stages r (state_in (known r))) crash first old new _ _ _
              (with_more (stored_in (known first)) steps step)
              (λ found e. with_more (stored_in (known first)) steps step found
              (kept_stands first old steps has found e)) has.any_moment one.any_moment;
          limit = one.done.limit ∙ has.limit;
          faults = omega (arith, has.faults, one.done.later);
        }

    -- a call failed
    pub not_staged : (first old new : R) (steps : History) (d : Decided A F) (fault : F)
        → HasStaged known stages crash first old steps
        → Stages known stages crash failure d old new (Err fault)
        → HasStaged known stages crash first new steps
    not_staged first old new steps d fault has call =
        let one = call (after_all (state_in (known first)) has.flushed) has.kept in
        let left = subst (λ (b : Bool). IsLeft (known old) (known new)
        (stages new (after_all (state_in (known first)) has.flushed)) b) one.no_disk one.done.left in
        record {
          flushed = has.flushed;
          staged = has.staged;
          are = has.are;
          state = ap meaning_of one.done.state ∙ has.state;
          need = λ xs y. left.1 xs y ∙ has.need xs y;
          kept = left.0;
          any_moment = adds_on known (λ r. stages r (state_in (known r))) crash first old new _ _ _
              (λ found h. h) (kept_stands first old steps has) has.any_moment one.any_moment;
          limit = one.done.limit ∙ has.limit;
          faults = omega (arith, has.faults, one.done.later);
        }

  -- ---- all is flushed

  -- on the way a crash leaves the state after some first of the steps, also where a disk failed
  pub flush_leaves : (first old new : R) (steps : History) (has : HasStaged known stages crash first old steps)
      → AddsOnly known crash old new (StandsAsEither
      (stored_as (known old) (after_all (state_in (known first)) has.flushed)) (stored_in (known old)))
      → AddsOnly known crash first new (StandsAfterFirst (stored_in (known first)) steps)
  flush_leaves first old new steps has any_moment =
      adds_on known (λ r. stages r (state_in (known r))) crash first old new _ _ _ (λ found h. h) either
      has.any_moment any_moment
    where
      either : (found : Found Stored) → StandsAsEither
          (stored_as (known old) (after_all (state_in (known first)) has.flushed)) (stored_in (known old)) found
          → StandsAfterFirst (stored_in (known first)) steps found
      either found (inl e) = kept_stands first old steps has found e
      either found (inr e) = now_stands first old steps has found e

  -- the flush succeeded
  pub all_flushed : (first old new : R) (steps : History) (has : HasStaged known stages crash first old steps)
      → stages new (state_in (known new)) → lists_of (known new).state ≡ lists_of (known old).state
      → NeedsBehind (known old) (known new) [] → AddsOnly known crash old new (StandsAsEither
      (stored_as (known old) (after_all (state_in (known first)) has.flushed)) (stored_in (known old)))
      → (known new).limit ≡ (known old).limit → (known old).faults ≤ (known new).faults
      → HasStaged known stages crash first new steps
  all_flushed first old new steps has kept state need any_moment limit later =
      let stands : state_in (known new) ≡ after_all (state_in (known first)) steps = ap meaning_of state ∙ has.state in
      record {
        flushed = steps;
        staged = [];
        are = sym (append-nil steps);
        state = stands;
        need = λ xs y. need xs y ∙ has.need xs y;
        kept = subst (λ (s : State). stages new s) stands kept;
        any_moment = flush_leaves first old new steps has any_moment;
        limit = limit ∙ has.limit;
        faults = omega (arith, has.faults, later);
      }
