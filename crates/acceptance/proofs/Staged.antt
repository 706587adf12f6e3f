-- A call that stages its step leaves what was kept, whatever it answers.
use Rattle.std.proofs.Common.{Bool, ℕ, Option, Result, Ok, Err, subst}
use Rattle.conflicts.specs.State.{State}
use Rattle.conflicts.specs.Writing.{Decided}
use Rattle.replica_core.specs.Replica.{Found, IsLeft, Known, Stored}
use Rattle.replica_core.specs.Staging.{IsStaged}
use Rattle.replica_core.specs.declared.fault.CommitFault.{CommitFault}

module _ {R : Type 0} (known : R → Known) (stages : R → State → Type 0) (crash : R → ℕ → Found Stored → Type 0)
    {A F : Type 0} (failure : F → Option CommitFault) where
  pub still_kept : (decided : Decided A F) (kept : State) (old new : R) (result : Result A F)
      → IsStaged known stages crash failure decided kept old new result → stages new kept
  still_kept decided kept old new (Ok answer) staged = staged.done.ok.2
  still_kept decided kept old new (Err fault) staged =
      (subst (λ (b : Bool). IsLeft (known old) (known new) (stages new kept) b) staged.no_disk staged.done.left).0
