-- What becomes of a document to which another replica hands over a revision.
use Rattle.std.specs.Prelude.{◌≡◌, ◌⊎◌, Bool, true, false, Option, Some, None, IfSome}
use Rattle.vector_rev.specs.Counts.{Uid}
use Rattle.vector_rev.specs.Clock.{covers, dominates}
use Rattle.conflicts.specs.Lists.{In}
use Rattle.conflicts.specs.Document.{Document, document_after, content_of}
use Rattle.conflicts.specs.Decision.{decides, received}
use Rattle.conflicts.specs.Laws.{IsDocument}
use Rattle.conflicts.specs.declared.member.Member.{Member}
use Rattle.conflicts.specs.declared.accept.Accept.{Accept}
use Rattle.conflicts.specs.declared.receipts.Taken.{Taken}
use Rattle.conflicts.specs.declared.receipts.Outcome4.TheVariants.{Inserted, Converged, Conflicted}

-- the document after what is accepted, if something is
abbrev pub after_taken : Document → Option Accept → Document
after_taken d None = d
after_taken d (Some a) = document_after d a

-- what the answer to the revision x leaves of the document
pub record ReceivesOf (d : Document) (x : Member) (save : Bool) (t : Taken) : Type 0 where
  -- a member covers what was asked for
  pub covered : save ≡ true →
      (m : Member) × In m (after_taken d t.accepted).members × (covers m.rev x.rev ≡ true)
  -- and in any case some member is not older than it
  pub not_older : (m : Member) × In m (after_taken d t.accepted).members × (dominates x.rev m.rev ≡ false)
  -- a revision that is inserted, and one that is the current one already, is the current one
  pub current : (t.outcome ≡ Inserted) ⊎ (t.outcome ≡ Converged) → (after_taken d t.accepted).current ≡ Some x.rev
  -- what was asked for and is accepted is what the document then reads
  pub content : save ≡ true → IfSome t.accepted (λ a. content_of (document_after d a) ≡ x.content)
  -- an insertion is accepted as it came, and so is a conflict where it is accepted
  pub inserted : t.outcome ≡ Inserted → t.accepted ≡ Some (received x)
  pub conflicted : t.outcome ≡ Conflicted → IfSome t.accepted (λ a. a ≡ received x)

abbrev pub Receipts : Type 0
Receipts = (d : Document) → IsDocument d → (x : Member) (save : Bool) (own : Uid) →
    ReceivesOf d x save (decides d x save own)
