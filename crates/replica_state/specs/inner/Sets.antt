-- The set of members after an acceptance, which may not fit.
use Rattle.std.specs.Prelude.{◌≡◌, Option, Some, None}
use Rattle.conflicts.specs.Document.{Document, document_after}
use Rattle.conflicts.specs.Kept.{Kept, document}
use Rattle.conflicts.specs.declared.accept.Accept.{Accept}

-- the new set; none where the acceptance changes nothing
abbrev pub IsSetAfter : Document → Accept → Option Kept → Type 0
IsSetAfter d a None = document_after d a ≡ d
IsSetAfter d a (Some kept) = document (Some kept) ≡ document_after d a
