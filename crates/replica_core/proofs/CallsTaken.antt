-- Receipts and moves, as what a call decides; and that their steps fit.
use Rattle.std.proofs.Common.{◌≡◌, inl, inr, ℕ, Bool, true, false, Option, Some, None, Err, refl, sym, ap, subst}
use Rattle.std.specs.Prelude.{IfSome, if◌then◌else◌}
use Rattle.std.specs.Option.{option_map}
use Rattle.u1_base.specs.Places.{same_place}
use Rattle.translog.specs.Laws.{TestsDecide}
use Rattle.translog.specs.Source.{passes}
use Rattle.conflicts.specs.Document.{FitsDocument}
use Rattle.conflicts.specs.State.{Fits, Moved, State, Step, Text}
use Rattle.conflicts.specs.declared.accept.Accept.{Accept}
use Rattle.conflicts.specs.declared.moves.Move.{Move}
use Rattle.conflicts.specs.Writing.{Decided, IsRefusal, Refuses, if_goes_on, kept_place, move_step, take_step}
use Rattle.replica_core.specs.CallsChecks.{ChecksFrom}
use Rattle.replica_core.specs.CallsFaults.{take_failed, take_failure}
use Rattle.replica_core.specs.declared.calls.receipts.TakeFault.{TakeFault}
use Rattle.replica_core.specs.declared.calls.receipts.TakeFault.TheVariants.{LogCheck}
use Rattle.replica_core.specs.declared.fault.CommitFault.{CommitFault}
use Rattle.replica_core.specs.declared.fault.CommitFault.TheVariants as commit
use Rattle.replica_core.specs.CallsChecks.{IsUndone}

pub take_fails : (f : CommitFault) → take_failure (take_failed f) ≡ Some f
take_fails (commit.Full need limit) = refl
take_fails commit.Disk = refl
take_fails commit.Memory = refl

module _ {A : Type 0} (s : State) (m : Move) (d : Decided A TakeFault) where
  -- the check passed
  pub goes_on_is : passes (kept_place s m) m.at ≡ true → if_goes_on LogCheck s m d ≡ d
  goes_on_is e = ap (λ (b : Bool). if b then d else Refuses (LogCheck (kept_place s m) m.at)) e

  -- it did not pass, or memory ran out
  pub check_undone : (fault : TakeFault) → ChecksFrom {A = A} (kept_place s m) m.at (Err fault)
      → IsUndone take_failure (if_goes_on LogCheck s m d) fault
  check_undone fault (inl e) = inl (ap take_failure e)
  check_undone fault (inr h) =
      inr (
        ap take_failure h.1,
        subst (λ (b : Bool). IsRefusal (if b then d else Refuses (LogCheck (kept_place s m) m.at)) fault) (sym h.0) h.1,
      )

-- ---- the steps fit

module _ (tests : TestsDecide) (s : State) (m : Move) (e : passes (kept_place s m) m.at ≡ true) where
  pub move_fits : IfSome (move_step s m) (Fits s)
  move_fits = by (same_place m.at (kept_place s m))
    where
      by : (b : Bool) → IfSome (if b then None else Some (Moved m)) (Fits s)
      by true = tt
      by false = (tests.on (kept_place s m) m.at).1 e

  pub take_fits : (seed : ℕ) (doc : Text) (accepted : Option Accept) → IfSome accepted (FitsDocument (s.document doc))
      → IfSome (take_step seed doc m s accepted) (Fits s)
  take_fits seed doc None h = move_fits
  take_fits seed doc (Some a) h = (h, (tests.on (kept_place s m) m.at).1 e)

-- what holds of a step of the program's holds of it as a step of a history
pub each_mapped : {A : Type 0} (f : A → Step) (o : Option A) (x : Option Step) (P : Step → Type 0) → option_map f o ≡ x
    → IfSome x P → IfSome o (λ a. P (f a))
each_mapped f None x P e h = tt
each_mapped f (Some a) x P e h = subst (λ (o : Option Step). IfSome o P) (sym e) h
