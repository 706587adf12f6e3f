-- Beside specs/Asked: a word of private contracts.
use Rattle.std.specs.Prelude.{◌≡◌, ◌⊎◌, Result, Err}
use Rattle.sync_phases.specs.declared.fault.SyncFault.{SyncFault}
use Rattle.sync_phases.specs.declared.fault.SyncFault.TheVariants.{Memory}

-- it comes to this, unless memory ran out
abbrev pub ComesTo : {A : Type 0} → Result A SyncFault → Result A SyncFault → Type 0
ComesTo defined result = (result ≡ Err Memory) ⊎ (result ≡ defined)
