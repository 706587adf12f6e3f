-- What a phase makes of a replica: its steps, all of them or some first ones, and why no more.
use Rattle.std.specs.Prelude.{◌≡◌, ◌≢◌, ℕ, ◌<◌, false, [], ◌∷◌, ◌++◌, Result, Err}
use Rattle.u1_base.specs.Causes.{Rose}
use Rattle.conflicts.specs.State.{History, Step}
use Rattle.replica_core.specs.Replica.{Found, Known, Stored}
use Rattle.sync_stream.specs.Lines.{GoOn}
use Rattle.sync_exchange.specs.Served.{HasMade}
use Rattle.sync_phases.specs.Phase.{Phase}
use Rattle.sync_phases.specs.declared.fault.SyncFault.{SyncFault}
use Rattle.sync_phases.specs.declared.fault.SyncFault.TheVariants.{Full, Disk, Memory}

-- how a phase ends that made these of its steps
pub data EndsSo {A : Type 0} (old new : Known) (phase : Phase A) (made : History) (result : Result A SyncFault)
    : Type 0 where
  -- it made all of them, and ends as it is defined
  whole : made ≡ phase.steps → result ≡ phase.ends → EndsSo old new phase made result
  -- its next step is too long for the image
  full : (x : Step) → GoOn (made ++ x ∷ []) phase.steps → old.limit < old.need made x
      → result ≡ Err (Full (old.need made x) old.limit) → EndsSo old new phase made result
  -- a disk failed
  failed : Rose old.faults new.faults → new.opened ≡ false → result ≡ Err Disk → EndsSo old new phase made result
  -- memory ran out
  stopped : result ≡ Err Memory → EndsSo old new phase made result

module _ {R : Type 0} (known : R → Known) (is_open : R → Type 0) (crash : R → ℕ → Found Stored → Type 0) where
  -- the phase makes steps and ends so; the replica is open then, unless a disk failed
  pub record Does {A : Type 0} (phase : Phase A) (old new : R) (result : Result A SyncFault) : Type 0 where
    pub made : History
    pub makes : HasMade known is_open crash old new made phase.steps
    pub ends : EndsSo (known old) (known new) phase made result
    pub opened : result ≢ Err Disk → is_open new
