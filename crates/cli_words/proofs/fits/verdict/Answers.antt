use Rattle.std.proofs.Common.{subst, ◌∙◌}
use Rattle.clap.specs.Kinds.{FailsBy}
use Rattle.cli_words.proofs.Forms.{no_fault_found, fault_found}
use Rattle.cli_words.proofs.fits.verdict.Goals as goal

pub returns-in-Ok : goal.returns-in-Ok
returns-in-Ok c = λ kinds h. no_fault_found kinds (subst (FailsBy kinds) c.in-Ok.is h)

pub returns-in_default : goal.returns-in_default
returns-in_default c =
    λ kinds h. fault_found kinds c.in-Err.error (subst (FailsBy kinds) c.in-Err.is h)
    (λ m. c.in_default.not-OutOfMemory (c.kind.ensures ∙ m))
