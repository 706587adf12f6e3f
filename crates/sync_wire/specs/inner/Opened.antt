-- Beside specs/Opened: a word of a private contract.
use Rattle.std.specs.Prelude.{Result, Ok, Err}
use Rattle.link.specs.declared.input.InputFault.{InputFault}
use Rattle.link.specs.declared.input.InputFault.TheVariants.{Memory}
use Rattle.sync_http.specs.declared.fault.WireFault.{WireFault}
use Rattle.sync_http.specs.declared.fault.WireFault.TheVariants as wire
use Rattle.sync_wire.specs.declared.head.Opening.{Opening}
use Rattle.sync_wire.specs.declared.head.Opening.TheVariants.{Faulty}

-- what comes of a head with this fault
abbrev pub stops_at : WireFault → Result Opening InputFault
stops_at wire.TooLarge = Ok (Faulty wire.TooLarge)
stops_at wire.BadHead = Ok (Faulty wire.BadHead)
stops_at wire.BadPath = Ok (Faulty wire.BadPath)
stops_at wire.BadMethod = Ok (Faulty wire.BadMethod)
stops_at wire.Chunked = Ok (Faulty wire.Chunked)
stops_at wire.NoLength = Ok (Faulty wire.NoLength)
stops_at wire.Memory = Err Memory
