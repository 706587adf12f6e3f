-- What a note reads after an acceptance.
use Rattle.std.specs.Prelude.{◌≡◌, ℕ, Bool, true, false, cond, [], ◌∷◌, Option, Some, None, Result, Err, IfOk, refl}
use Rattle.std.specs.List.{list_any}
use Rattle.std.specs.Option.{option_map, ok_or}
use Rattle.std.proofs.Common.{sym, ◌∙◌, ap}
use Rattle.u1_base.proofs.SameIds.{same_id-itself}
use Rattle.content.specs.Tree.{Tree}
use Rattle.vector_rev.specs.Clock.{Clock, dominates}
use Rattle.conflicts.specs.Document.{Document, content_at, content_now, current_member, document_after}
use Rattle.conflicts.specs.Document.{document_after_all}
use Rattle.conflicts.specs.State.{State, Text, after}
use Rattle.conflicts.specs.declared.accept.Accept.{Accept}
use Rattle.conflicts.specs.declared.moves.Move.{Move}
use Rattle.conflicts.proofs.Accepted.{is_read, takes_over}
use Rattle.conflicts.specs.Writing.{accept_next}

-- an acceptance of the document as the next entry of the log
pub after_next : (seed : ℕ) (s : State) (id : Text) (a : Accept) (moved : Option Move)
    → (after s (accept_next seed s id a moved)).document id ≡ document_after (s.document id) a
after_next seed s id a moved = ap (λ (b : Bool). document_after_all (s.document id) (cond b (a ∷ []) []))
    (same_id-itself id)

-- an accepted revision that is marked current is read, with its content
module _ (d : Document) (a : Accept) (none : list_any (λ m. dominates m.rev a.rev) d.members ≡ false)
    (marked : a.current ≡ true) where
  member_read : current_member (document_after d a)
      ≡ Some (record { rev = a.rev; content = content_at a.rev (document_after d a).members })
  member_read =
      ap (option_map (λ (c : Clock). record { rev = c; content = content_at c (document_after d a).members }))
      (takes_over d a none marked)

  content_read : content_at a.rev (document_after d a).members ≡ a.content
  content_read =
      sym (ap (λ (c : Option Clock). content_now c (document_after d a).members) (takes_over d a none marked))
      ∙ is_read d a none marked

  pub reads_after : (t : Option Tree) → a.content ≡ t
      → current_member (document_after d a) ≡ Some (record { rev = a.rev; content = t })
  reads_after t has =
      member_read ∙ ap (λ (t : Option Tree). Some (record { rev = a.rev; content = t })) (content_read ∙ has)

-- ---- what is made, if nothing refuses it

pub made_ok : {E : Type 0} (f : Clock → Accept) (o : Option Clock) (e : E) (P : Accept → Type 0)
    → ((r : Clock) → P (f r)) → IfOk (ok_or (option_map f o) e) P
made_ok f None e P h = tt
made_ok f (Some r) e P h = h r

pub unless : {E : Type 0} (b : Bool) (e : E) (y : Result Accept E) (P : Accept → Type 0) → (b ≡ false → IfOk y P)
    → IfOk (cond b (Err e) y) P
unless true e y P h = tt
unless false e y P h = h refl
