-- Of acceptances that all fit, the last marked one is the current revision.
use Rattle.std.specs.Prelude.{◌≡◌, Bool, true, false, cond, List, [], ◌∷◌, Option, Some, None, refl}
use Rattle.std.proofs.Common.{sym, ◌∙◌, ap, inl, inr}
use Rattle.vector_rev.specs.Clock.{Clock, covers}
use Rattle.conflicts.specs.Document.{Document, current_after, no_document, document_after, document_after_all}
use Rattle.conflicts.specs.Document.{StaysBeside, FitsDocument}
use Rattle.conflicts.specs.Laws.{CurrentIs}
use Rattle.conflicts.specs.Acceptances.{AllFit, LastMarkedIsCurrent, last_marked}
use Rattle.conflicts.specs.declared.accept.Accept.{Accept}
use Rattle.u1_base.proofs.Booleans.{not_both}
use Rattle.conflicts.proofs.Applied.{stays_unmarked}
use Rattle.conflicts.proofs.Documents.{steps_are_document}
use Rattle.conflicts.proofs.WellFormed.{current_stays, member_has}
use Rattle.conflicts.proofs.Accepted.{stays_member, takes_over}

module _ (d : Document) (a : Accept) (fits : FitsDocument d a) where
  -- a current revision that the accepted one does not cover stays the current one, unless that one is marked
  kept_current : (c : Option Clock) → d.current ≡ c → CurrentIs d.members c → StaysBeside c a.rev → a.current ≡ false
      → (document_after d a).current ≡ c
  kept_current None is member kept unmarked = absurd kept
  kept_current (Some c) is member kept unmarked =
      ap (λ (o : Option Clock). current_after (document_after d a).members o a) is
      ∙ stays_unmarked (document_after d a).members c a
      (member_has c (document_after d a).members
      (member.0, stays_member d a fits.not_older member.0 member.1 (ap (covers a.rev) member.2 ∙ kept), member.2))
      unmarked

  -- an acceptance that is not marked and fits does not cover the current one
  stays_beside : a.current ≡ false → StaysBeside d.current a.rev
  stays_beside unmarked =
      elim fits.settled [ inl marked ↦ absurd (not_both a.current marked unmarked) | inr kept ↦ kept ]

  -- the current revision after it, by its mark
  by_mark : CurrentIs d.members d.current → (b : Bool) → a.current ≡ b
      → (document_after d a).current ≡ cond b (Some a.rev) d.current
  by_mark member true marked = takes_over d a fits.not_older marked
  by_mark member false unmarked = kept_current d.current refl member (stays_beside unmarked) unmarked

-- over a list of acceptances, from any document on
after_list : (h : List Accept) (d : Document) → CurrentIs d.members d.current → AllFit d h
    → (document_after_all d h).current ≡ last_marked d.current h
after_list [] d member fit = refl
after_list (a ∷ later) d member fit =
    after_list later (document_after d a) (current_stays d a d.current member) fit.1
    ∙ ap (λ (c : Option Clock). last_marked c later) (by_mark d a fit.0 member a.current refl)

pub law : LastMarkedIsCurrent
law h fit = ap (λ (d : Document). d.current) (sym (steps_are_document h)) ∙ after_list h no_document refl fit
