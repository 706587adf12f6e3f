-- What is answered to a place up to which a source knows the log.
use Rattle.std.specs.Prelude.{◌≡◌, ◌⊎◌, true, false, List, Result, Ok, Err}
use Rattle.u1_base.specs.Places.{Place}
use Rattle.translog.specs.Log.{fits_log, mine_of}
use Rattle.translog.specs.declared.entry.Entry.{Entry}
use Rattle.sync_exchange.specs.declared.fault.ExchangeFault.{ExchangeFault}
use Rattle.sync_exchange.specs.declared.fault.ExchangeFault.TheVariants.{LogCheck, Memory}

-- Ok exactly where the place fits, and else both places, unless memory runs out
abbrev pub ChecksKnown : {A : Type 0} → List Entry → Place → Result A ExchangeFault → Type 0
ChecksKnown es asked (Ok answer) = fits_log es asked ≡ true
ChecksKnown es asked (Err fault) =
    (fault ≡ Memory) ⊎ ((fits_log es asked ≡ false) × (fault ≡ LogCheck asked (mine_of es asked)))
