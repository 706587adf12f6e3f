-- What the replacements of a step leave.
use Rattle.std.specs.Prelude.{◌≡◌, cond, List}
use Rattle.std.specs.FinMap.Entries.{find}
use Rattle.u1_base.specs.Ids.{id_cmp, same_id}
use Rattle.conflicts.specs.Document.{document_after}
use Rattle.conflicts.specs.Kept.{Kept, document}
use Rattle.conflicts.specs.State.{Text}
use Rattle.conflicts.specs.declared.accept.Accept.{Accept}
use Rattle.replica_state.specs.Held.{Names}
use Rattle.replica_state.specs.Keyed.{Docs}
use Rattle.replica_state.specs.Prepared.{docs_with, names_with}
use Rattle.replica_state.specs.declared.prepared.Replacement.{Replacement}
use Rattle.replica_state.specs.declared.prepared.Replacement.TheVariants.{Nothing, Document, NewIndex, NoIndex}

-- the document is the one after the acceptance, all others stay
abbrev pub HaveAccepted : Docs → Text → Accept → Docs → Type 0
HaveAccepted old doc a new = (d : Text) → document (find id_cmp d new)
    ≡ cond (same_id d doc) (document_after (document (find id_cmp d old)) a) (document (find id_cmp d old))

-- the same of what is replaced, and the indexes stay
pub record IsDocumentAfter (docs : Docs) (doc : Text) (a : Accept) (r : Replacement) : Type 0 where
  pub documents : HaveAccepted docs doc a (docs_with r docs)
  pub indexes : (names : Names) → names_with r names ≡ names

-- it is the set, at this id
abbrev pub IsSetPut : Text → Kept → Replacement → Type 0
IsSetPut doc set Nothing = ⊥
IsSetPut doc set (Document id put changes) = (id ≡ doc) × (put ≡ set)
IsSetPut doc set (NewIndex index) = ⊥
IsSetPut doc set (NoIndex name) = ⊥

-- it is an index of that name with these expressions
abbrev pub IsIndexAfter : Text → List Text → Replacement → Type 0
IsIndexAfter name exprs Nothing = ⊥
IsIndexAfter name exprs (Document id set changes) = ⊥
IsIndexAfter name exprs (NewIndex index) = (index.name ≡ name) × (index.exprs.texts ≡ exprs)
IsIndexAfter name exprs (NoIndex other) = ⊥
