-- How a call ends that stages its step: without one, or as the staging of its step ends.
use Rattle.std.proofs.Common.{◌≡◌, inl, inr, ℕ, false, Option, Some, None, Ok, Err, refl, ap, ◌∙◌}
use Rattle.conflicts.specs.State.{State, Step}
use Rattle.conflicts.specs.Writing.{Answers, Decided}
use Rattle.replica_core.specs.Replica.{Found, Known, Stands, Stored, stored_as}
use Rattle.replica_core.specs.Calls.{is_disk_failure}
use Rattle.replica_core.specs.CallsFaults.{commit_failure}
use Rattle.replica_core.specs.Staging.{Stages, no_crash}
use Rattle.replica_core.specs.declared.fault.CommitFault.{CommitFault}
use Rattle.replica_core.specs.CallsChecks.{IsUndone}
use Rattle.replica_core.proofs.CallsEnds.{answered, done_err, done_ok, unchanged, undone}

module _ {R : Type 0} (known : R → Known) (stages : R → State → Type 0) (crash : R → ℕ → Found Stored → Type 0) where
  -- a crash leaves what is kept
  abbrev pub Leaves : R → Type 0
  Leaves r = (kept : State) (found : Found Stored) → stages r kept → crash r (known r).moment found
      → found ≡ Stands (stored_as (known r) kept)

  module _ {A F : Type 0} (failure : F → Option CommitFault) where
    -- an answer that needs no step
    pub staged_answered : (r : R) (d : Decided A F) (answer : A) → Leaves r → d ≡ Answers answer None
        → Stages known stages crash failure d r r (Ok answer)
    staged_answered r d answer leaves e kept k = record {
      done = answered known (λ r. stages r kept) no_crash failure r d answer k (λ found impossible. absurd impossible) e;
      any_moment = unchanged known (λ r. stages r kept) crash r _ (λ found h. leaves kept found k h);
      no_disk = tt;
      faults = refl;
    }

    -- a fault before the step is staged
    pub staged_undone : (r : R) (d : Decided A F) (fault : F) → Leaves r → IsUndone failure d fault
        → Stages known stages crash failure d r r (Err fault)
    staged_undone r d fault leaves why kept k = record {
      done = undone known (λ r. stages r kept) no_crash failure r d fault k (λ found impossible. absurd impossible) why;
      any_moment = unchanged known (λ r. stages r kept) crash r _ (λ found h. leaves kept found k h);
      no_disk = quiet why;
      faults = refl;
    }
      where
        quiet : IsUndone failure d fault → is_disk_failure (failure fault) ≡ false
        quiet (inl e) = ap is_disk_failure e
        quiet (inr h) = ap is_disk_failure h.0

    -- what ends a call is what ends the staging of its step
    pub staged_ok : (old new : R) (d : Decided A F) (answer given : A) (step : Option Step) → d ≡ Answers answer step →
        Stages known stages crash commit_failure (Answers answer step) old new (Ok given)
        → Stages known stages crash failure d old new (Ok given)
    staged_ok old new d answer given step e h kept k =
        let s = h kept k in
        record {
          done = done_ok known (λ r. stages r kept) no_crash failure old new d answer given step e s.done;
          any_moment = s.any_moment;
          no_disk = tt;
          faults = s.faults;
        }

    pub staged_err : (old new : R) (d : Decided A F) (answer : A) (step : Option Step) (f : CommitFault) (fault : F)
        → d ≡ Answers answer step → failure fault ≡ Some f →
        Stages known stages crash commit_failure (Answers answer step) old new (Err f)
        → Stages known stages crash failure d old new (Err fault)
    staged_err old new d answer step f fault e is h kept k =
        let s = h kept k in
        record {
          done = done_err known (λ r. stages r kept) no_crash failure old new d answer step f fault e is s.done;
          any_moment = s.any_moment;
          no_disk = ap is_disk_failure is ∙ s.no_disk;
          faults = s.faults;
        }
