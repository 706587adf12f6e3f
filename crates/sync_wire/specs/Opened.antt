-- What was read of a connection: the head of its request, and bytes of its body.
use Rattle.std.specs.Prelude.{◌≡◌, ◌≢◌, ◌⊎◌, ℕ, ◌≤◌, List, [], ◌++◌, length, Option, Ok, Err}
use Rattle.std.specs.Io.KnownBytes.{Consumes, IsAtEnd}
use Rattle.link.specs.declared.input.InputFault.{InputFault}
use Rattle.link.specs.declared.input.InputFault.TheVariants.{Source, Memory}
use Rattle.sync_http.specs.Hearing.{HearsRequest, SaysRequest}
use Rattle.sync_http.specs.declared.fault.WireFault.{WireFault}
use Rattle.sync_http.specs.declared.fault.WireFault.TheVariants as wire
use Rattle.sync_http.specs.declared.heads.Heard.TheVariants.{NotYet}
use Rattle.sync_wire.specs.declared.head.Opening.{Opening}
use Rattle.sync_wire.specs.declared.head.Opening.TheVariants.{Head, Early, Faulty}

-- ---- the head

-- these bytes were read and no others, and they say the opening. A source that ends early has nothing left
abbrev pub IsOpened : Option (List ℕ) → Option (List ℕ) → Opening → Type 0
IsOpened before after (Head head n bytes) =
    Consumes before after bytes × SaysRequest bytes (Ok head) n × (n ≤ length bytes)
IsOpened before after Early = (read : List ℕ) × Consumes before after read × HearsRequest read (Ok NotYet)
    × IsAtEnd after
IsOpened before after (Faulty fault) = (read : List ℕ) × Consumes before after read × HearsRequest read (Err fault)
    × (fault ≢ wire.Memory)

-- what is read when it fails is part of a head; where memory runs out some bytes more may be lost
abbrev pub LosesHead : Option (List ℕ) → Option (List ℕ) → InputFault → Type 0
LosesHead before after Source = (read : List ℕ) × Consumes before after read × HearsRequest read (Ok NotYet)
LosesHead before after Memory = (lost : List ℕ) × Consumes before after lost

-- ---- further bytes

-- so many bytes are there, or the source is at its end
pub record ReadsUpTo (end : ℕ) (before after : Option (List ℕ)) (old new : List ℕ) : Type 0 where
  pub read : List ℕ
  pub gone : Consumes before after read
  pub added : new ≡ old ++ read
  pub all : (end ≤ length new) ⊎ IsAtEnd after

-- the bytes that were added were read; where memory runs out some bytes more may be lost
pub record LosesPiece (before after : Option (List ℕ)) (old new : List ℕ) (fault : InputFault) : Type 0 where
  pub read : List ℕ
  pub lost : List ℕ
  pub gone : Consumes before after (read ++ lost)
  pub added : new ≡ old ++ read
  pub exact : fault ≡ Source → lost ≡ []
