-- Streams in memory, each call of which fails where a test wants it.
use Rattle.std.specs.Prelude.{◌≡◌, ◌⊎◌, ℕ, ◌+◌, ◌-◌, ◌/◌, ◌^◌, false, List, ◌++◌, length, take, Some, min, Contains}
use Rattle.std.specs.Prelude.{Result, OnOk, OnErr}
use Rattle.link.specs.Streams.{Input, Output}

-- its bytes (those left of a source, those taken of a sink), how many calls were made, the numbers of the calls that
-- fail, and how many failed
pub record Stream : Type 0 where
  pub bytes : List ℕ
  pub calls : ℕ
  pub failing : List ℕ
  pub faults : ℕ

abbrev pub stream : List ℕ → ℕ → List ℕ → ℕ → Stream
stream bytes calls failing faults = record { bytes = bytes; calls = calls; failing = failing; faults = faults }

-- a connection: a stream to read from, and one to write to
pub record Line : Type 0 where
  pub source : Stream
  pub sink : Stream

-- it tells all of itself as an input
abbrev pub input_of : Stream → Input
input_of stream = record { left = Some stream.bytes; faults = stream.faults }

-- it tells all of itself as an output, and holds nothing back
abbrev pub output_of : Stream → Output
output_of stream = record { taken = Some stream.bytes; held = false; faults = stream.faults }

-- one more, as far as a u64 counts
abbrev pub one_more : ℕ → ℕ
one_more n = min (n + 1) (2 ^ 64 - 1)

-- a call is counted, the list of those that fail stays, and a fault is counted just where the call fails
pub record Counts {T E : Type 0} (before after : Stream) (result : Result T E) : Type 0 where
  pub counted : after.calls ≡ one_more before.calls
  pub failing : after.failing ≡ before.failing
  pub faultless : OnOk result (after.faults ≡ before.faults)
  pub faulty : OnErr result (after.faults ≡ one_more before.faults)

-- a put that failed: it was told to, and took the first half of the piece; or it took nothing, since memory ran out
abbrev pub FailedPut : Stream → Stream → List ℕ → Type 0
FailedPut before after piece =
    (Contains before.failing before.calls × (after.bytes ≡ before.bytes ++ take (length piece / 2) piece))
    ⊎ (after.bytes ≡ before.bytes)
