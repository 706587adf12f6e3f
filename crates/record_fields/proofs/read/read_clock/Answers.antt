-- The text is the bytes.
use Rattle.std.proofs.Common.{◌≡◌, Some, sym, subst}
use Rattle.vector_rev.specs.ClockText.{clock_in}
use Rattle.record_fields.proofs.read.read_clock.Goals as goal

pub returns-in-Ok-read : goal.returns-in-Ok-read
returns-in-Ok-read c =
    subst (λ s. Some c.in-Ok-read.clock ≡ clock_in s) c.in-Ok.ensures.cases.0 (sym c.in-Ok-read.ensures)
