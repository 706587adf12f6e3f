-- What the check of a move answers, and why a call ends before its step is made. Only private clauses speak of these.
use Rattle.std.specs.Prelude.{◌≡◌, ◌⊎◌, true, false, Option, Some, None, Result, Ok, Err}
use Rattle.u1_base.specs.Places.{Place}
use Rattle.translog.specs.Source.{passes}
use Rattle.conflicts.specs.State.{State}
use Rattle.conflicts.specs.declared.moves.Move.{Move}
use Rattle.conflicts.specs.Writing.{Decided, IsRefusal, kept_place}
use Rattle.replica_core.specs.declared.fault.CommitFault.{CommitFault}
use Rattle.replica_core.specs.declared.fault.CommitFault.TheVariants as commit
use Rattle.replica_core.specs.declared.calls.receipts.TakeFault.{TakeFault}
use Rattle.replica_core.specs.declared.calls.receipts.TakeFault.TheVariants.{LogCheck, Memory}

-- Ok where the place goes on from the kept one, and else both places, unless memory runs out
abbrev pub ChecksFrom : {A : Type 0} → Place → Place → Result A TakeFault → Type 0
ChecksFrom kept to (Ok answer) = passes kept to ≡ true
ChecksFrom kept to (Err fault) = (fault ≡ Memory) ⊎ ((passes kept to ≡ false) × (fault ≡ LogCheck kept to))

abbrev pub Checks : {A : Type 0} → State → Move → Result A TakeFault → Type 0
Checks s m result = ChecksFrom (kept_place s m) m.at result

-- memory ran out, or it is the decided refusal
abbrev pub IsUndone : {A F : Type 0} → (F → Option CommitFault) → Decided A F → F → Type 0
IsUndone failure decided fault =
    (failure fault ≡ Some commit.Memory) ⊎ ((failure fault ≡ None) × IsRefusal decided fault)
