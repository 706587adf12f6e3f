-- A call under other names of its answer and its faults.
use Rattle.std.proofs.Common.{◌≡◌, ℕ, ◌<◌, [], Option, Some, None, Ok, Err, sym, ap, subst, ◌∙◌}
use Rattle.std.specs.Prelude.{IfSome}
use Rattle.conflicts.specs.State.{State}
use Rattle.conflicts.specs.Writing.{Answers, Decided, Refuses}
use Rattle.replica_core.specs.Replica.{AddsOnly, Found, HasFailed, IsLeft, IsTooLong, Known, MayStand, Stored, stored_in}
use Rattle.replica_core.specs.Calls.{IfFailed, IsDone, is_disk_failure}
use Rattle.replica_core.specs.Staging.{Stages, no_crash}
use Rattle.replica_core.specs.declared.fault.CommitFault.{CommitFault}

module _ {A B F G : Type 0} (answer_as : A → B) (fault_as : F → G) where
  abbrev pub renamed : Decided A F → Decided B G
  renamed (Refuses fault) = Refuses (fault_as fault)
  renamed (Answers answer step) = Answers (answer_as answer) step

  if_failed : (o : Option CommitFault) (P : CommitFault → Type 0) (Q T : Type 0) → (Q → T) → IfFailed o P Q
      → IfFailed o P T
  if_failed None P Q T f h = f h
  if_failed (Some failure) P Q T f h = h

  module _ {R : Type 0} (known : R → Known) (is_open : R → Type 0) (crash : R → ℕ → Found Stored → Type 0)
      (failure : F → Option CommitFault) (failure' : G → Option CommitFault)
      (same : (fault : F) → failure' (fault_as fault) ≡ failure fault) where
    pub done_ok : (old new : R) (d : Decided A F) (answer : A)
        → IsDone known is_open crash failure d old new (Ok answer)
        → IsDone known is_open crash failure' (renamed d) old new (Ok (answer_as answer))
    done_ok old new (Refuses fault) answer done = absurd done.ok.0
    done_ok old new (Answers decided step) answer done = record {
      ok = (ap answer_as done.ok.0, done.ok.1, done.ok.2);
      need = done.need;
      still = done.still;
      cause = tt;
      too_long = done.too_long;
      state = tt;
      left = tt;
      any_moment = done.any_moment;
      limit = done.limit;
      later = done.later;
    }

    pub done_err : (old new : R) (d : Decided A F) (fault : F)
        → IsDone known is_open crash failure d old new (Err fault)
        → IsDone known is_open crash failure' (renamed d) old new (Err (fault_as fault))
    done_err old new (Refuses decided) fault done = record {
      ok = tt;
      need = tt;
      still = done.still;
      cause = subst (λ o. IfFailed o (HasFailed (known old) (known new) None) (fault_as fault ≡ fault_as decided))
          (sym (same fault)) (if_failed (failure fault) _ _ _ (ap fault_as) done.cause);
      too_long = tt;
      state = done.state;
      left = subst (λ o. IsLeft (known old) (known new) (is_open new) (is_disk_failure o)) (sym (same fault)) done.left;
      any_moment = subst (λ o. AddsOnly known crash old new (MayStand (stored_in (known old)) None (is_disk_failure o)))
          (sym (same fault)) done.any_moment;
      limit = done.limit;
      later = done.later;
    }
    done_err old new (Answers decided step) fault done = record {
      ok = tt;
      need = tt;
      still = done.still;
      cause = subst (λ o. IfFailed o (HasFailed (known old) (known new) step) ⊥) (sym (same fault)) done.cause;
      too_long = subst (λ o. IfSome step (λ x. (known old).limit < (known old).need [] x
          → IfFailed o (IsTooLong (known old) x) ⊥)) (sym (same fault)) done.too_long;
      state = done.state;
      left = subst (λ o. IsLeft (known old) (known new) (is_open new) (is_disk_failure o)) (sym (same fault)) done.left;
      any_moment = subst (λ o. AddsOnly known crash old new (MayStand (stored_in (known old)) step (is_disk_failure o)))
          (sym (same fault)) done.any_moment;
      limit = done.limit;
      later = done.later;
    }

  module _ {R : Type 0} (known : R → Known) (stages : R → State → Type 0) (crash : R → ℕ → Found Stored → Type 0)
      (failure : F → Option CommitFault) (failure' : G → Option CommitFault)
      (same : (fault : F) → failure' (fault_as fault) ≡ failure fault) where
    pub staged_ok : (old new : R) (d : Decided A F) (answer : A)
        → Stages known stages crash failure d old new (Ok answer)
        → Stages known stages crash failure' (renamed d) old new (Ok (answer_as answer))
    staged_ok old new d answer staged kept k =
        let one = staged kept k in
        record {
          done = done_ok known (λ r. stages r kept) no_crash failure failure' same old new d answer one.done;
          any_moment = one.any_moment;
          no_disk = tt;
          faults = one.faults;
        }

    pub staged_err : (old new : R) (d : Decided A F) (fault : F)
        → Stages known stages crash failure d old new (Err fault)
        → Stages known stages crash failure' (renamed d) old new (Err (fault_as fault))
    staged_err old new d fault staged kept k =
        let one = staged kept k in
        record {
          done = done_err known (λ r. stages r kept) no_crash failure failure' same old new d fault one.done;
          any_moment = one.any_moment;
          no_disk = ap is_disk_failure (same fault) ∙ one.no_disk;
          faults = one.faults;
        }
