-- Which outcomes are of a kind. This is the one lemma that lists all outcomes.
use Rattle.std.proofs.Common.{◌≡◌, ℕ, refl, inl, inr}
use Rattle.std.specs.Prelude.{◌≢◌, ◌⊎◌}
use Rattle.command_lines.specs.Endings.{Ending, Finished, Answered, TooLong, DiskFailed, InputFailed, OutputFailed}
use Rattle.command_lines.specs.Endings.{LinkFailed, DoorFailed, OutOfMemory, ending_of}
use Rattle.command_lines.specs.declared.outcome.Outcome.{Outcome}
use Rattle.command_lines.specs.declared.outcome.Outcome.TheVariants.{Done, Usage, BadContent, Refused, Damaged}
use Rattle.command_lines.specs.declared.outcome.Outcome.TheVariants.{StoreFull, DiskFault, SourceFault, SinkFault}
use Rattle.command_lines.specs.declared.outcome.Outcome.TheVariants.{LinkFault, AcceptFault, Peer, BrokenReply}
use Rattle.command_lines.specs.declared.outcome.Outcome.TheVariants.{LogCheck, Memory}

-- the outcome of a kind that has one
abbrev pub IsOf : Ending → Outcome → Type 0
IsOf Finished outcome = outcome ≡ Done
IsOf Answered outcome = Unit {0}
IsOf (TooLong need limit) outcome = outcome ≡ StoreFull need limit
IsOf DiskFailed outcome = outcome ≡ DiskFault
IsOf InputFailed outcome = outcome ≡ SourceFault
IsOf OutputFailed outcome = outcome ≡ SinkFault
IsOf LinkFailed outcome = outcome ≡ LinkFault
IsOf DoorFailed outcome = outcome ≡ AcceptFault
IsOf OutOfMemory outcome = outcome ≡ Memory

pub of_kind : (outcome : Outcome) → IsOf (ending_of outcome) outcome
of_kind Done = refl
of_kind (Usage kind) = tt
of_kind (BadContent fault) = tt
of_kind (Refused refusal) = tt
of_kind (Damaged disk place) = tt
of_kind (StoreFull need limit) = refl
of_kind DiskFault = refl
of_kind SourceFault = refl
of_kind SinkFault = refl
of_kind LinkFault = refl
of_kind AcceptFault = refl
of_kind (Peer status) = tt
of_kind (BrokenReply line) = tt
of_kind (LogCheck mine theirs) = tt
of_kind Memory = refl

-- an outcome of another kind is another outcome
pub other_kind : (outcome other : Outcome) (kind : Ending) → ending_of outcome ≡ kind → (ending_of other ≡ kind → ⊥)
    → outcome ≢ other
other_kind outcome other kind is not same = not (rw same at is)

-- a run ends by a failed disk or otherwise
disk_by : (outcome : Outcome) (kind : Ending) → ending_of outcome ≡ kind → IsOf kind outcome
    → (outcome ≡ DiskFault) ⊎ (outcome ≢ DiskFault)
disk_by outcome DiskFailed is of = inl of
disk_by outcome Finished is of = inr (other_kind outcome DiskFault _ is (λ h. cc h))
disk_by outcome Answered is of = inr (other_kind outcome DiskFault _ is (λ h. cc h))
disk_by outcome (TooLong need limit) is of = inr (other_kind outcome DiskFault _ is (λ h. cc h))
disk_by outcome InputFailed is of = inr (other_kind outcome DiskFault _ is (λ h. cc h))
disk_by outcome OutputFailed is of = inr (other_kind outcome DiskFault _ is (λ h. cc h))
disk_by outcome LinkFailed is of = inr (other_kind outcome DiskFault _ is (λ h. cc h))
disk_by outcome DoorFailed is of = inr (other_kind outcome DiskFault _ is (λ h. cc h))
disk_by outcome OutOfMemory is of = inr (other_kind outcome DiskFault _ is (λ h. cc h))

pub disk_or_not : (outcome : Outcome) → (outcome ≡ DiskFault) ⊎ (outcome ≢ DiskFault)
disk_or_not outcome = disk_by outcome (ending_of outcome) refl (of_kind outcome)
