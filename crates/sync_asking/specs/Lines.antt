-- The lines of a reply, as a reader gives them.
use Rattle.std.specs.Prelude.{◌≡◌, ◌⊎◌, List, [], ◌∷◌, ◌++◌, ℕ, Option, Some, None}
use Rattle.sync_stream.specs.HeldText.{HasNoMore, HeldText, StandsFor}
use Rattle.sync_stream.specs.Stream.{IsFaultyAt}
use Rattle.sync_stream.specs.declared.fault.LineFault.{LineFault}
use Rattle.sync_stream.specs.declared.fault.StreamFault.{StreamFault}
use Rattle.sync_stream.specs.declared.fault.StreamFault.TheVariants as stream
use Rattle.sync_stream.specs.declared.line.Line.{Line}
use Rattle.sync_phases.specs.Phases.{line_fault}
use Rattle.sync_phases.specs.declared.fault.SyncFault.{SyncFault}
use Rattle.sync_phases.specs.declared.fault.SyncFault.TheVariants.{Broken, Memory}

-- a fault of a reader, as one of a session
abbrev pub reader_fault : StreamFault → SyncFault
reader_fault (stream.At n) = Broken n
reader_fault (stream.TooLong n) = Broken n
reader_fault stream.Memory = Memory

-- the reader has given these lines, whatever it gave before
abbrev pub HasGiven : HeldText → HeldText → List Line → Type 0
HasGiven old new lines =
    (text : List ℕ) (given : List Line) → StandsFor old text given → StandsFor new text (given ++ lines)

-- it gives one line more; or none, since no whole one is left
abbrev pub GivesLine : HeldText → HeldText → Option Line → Type 0
GivesLine old new None = HasGiven old new [] × HasNoMore new
GivesLine old new (Some line) = HasGiven old new (line ∷ [])

-- its next line is faulty, or memory ran out
abbrev pub IsFaulty : HeldText → SyncFault → Type 0
IsFaulty reader fault =
    (fault ≡ Memory)
    ⊎ ((f : LineFault) × IsFaultyAt reader.kind reader.number reader.place reader.rest f × (fault ≡ line_fault f))
