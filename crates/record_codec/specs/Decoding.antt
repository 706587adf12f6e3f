use Rattle.std.specs.Prelude.{◌≡◌, ◌≤◌, ℕ, Result, Ok, Err}
use Rattle.conflicts.specs.State.{Step}
use Rattle.replica_state.specs.declared.step.Step.{Step as Held}
use Rattle.replica_state.specs.Steps.{step_of}
use Rattle.record_codec.specs.Bodies.{Recorded, step}
use Rattle.record_codec.specs.declared.decoding.Decoded.{Decoded}
use Rattle.record_codec.specs.declared.decoding.RecordFault.{RecordFault}
use Rattle.record_codec.specs.declared.decoding.RecordFault.TheVariants.{Bad, Memory}

-- a step that was read, as one of a history
abbrev pub recorded : Decoded → Recorded
recorded d = record { step = step_of d.step; added = d.added }

-- what the body says, or the place of its first field that has no reading
abbrev pub Decodes : Result Recorded ℕ → Result Decoded RecordFault → Type 0
Decodes read (Ok d) = read ≡ Ok (recorded d)
Decodes read (Err (Bad place)) = read ≡ Err place
Decodes read (Err Memory) = Unit {0}

-- the same of a step alone
abbrev pub DecodesAlone : Result Step ℕ → Result Held RecordFault → Type 0
DecodesAlone read (Ok s) = read ≡ Ok (step_of s)
DecodesAlone read (Err (Bad place)) = read ≡ Err place
DecodesAlone read (Err Memory) = Unit {0}

-- the place of a fault is in the body of so many bytes, or after its last one
abbrev pub IsBadWithin : {T : Type 0} → ℕ → Result T RecordFault → Type 0
IsBadWithin size (Ok read) = Unit {0}
IsBadWithin size (Err (Bad place)) = place ≤ size
IsBadWithin size (Err Memory) = Unit {0}
