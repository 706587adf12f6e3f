-- The members of a document after an acceptance that may not fit.
use Rattle.std.proofs.Common.{◌≡◌, true, false, sym, Option}
use Rattle.std.specs.List.{list_any}
use Rattle.vector_rev.specs.Clock.{dominates}
use Rattle.conflicts.specs.Acceptances.{marked}
use Rattle.conflicts.specs.Document.{FitsDocument, document_after}
use Rattle.conflicts.specs.Kept.{Kept, document}
use Rattle.conflicts.specs.declared.accept.Accept.{Accept}
use Rattle.conflicts.proofs.OverCurrent.{law}
use Rattle.conflicts.proofs.WellFormed.{kept-IsDocument}

-- where a member is newer, nothing changes
pub nothing_new : (k : Option Kept) (a : Accept) → list_any (λ m. dominates m.rev a.rev) (document k).members ≡ true
    → document_after (document k) a ≡ document k
nothing_new k a newer = law.dominated (document k) a (kept-IsDocument k) newer

-- where none is, the mark makes it fit and changes nothing else
pub mark_same : (k : Option Kept) (a : Accept) → list_any (λ m. dominates m.rev a.rev) (document k).members ≡ false
    → ¬ (FitsDocument (document k) a) → document_after (document k) (marked a) ≡ document_after (document k) a
mark_same k a none unfit = sym (law.unmarked (document k) a (kept-IsDocument k) none unfit)
