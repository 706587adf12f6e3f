-- What an acceptance leaves of a document where no member is newer.
use Rattle.std.specs.Prelude.{◌≡◌, Bool, true, false, cond, not, ◌||◌, List, [], ◌∷◌, ◌++◌, filter, Option, Some, refl}
use Rattle.std.specs.List.{list_any}
use Rattle.std.proofs.Common.{sym, ◌∙◌, ap, subst}
use Rattle.content.specs.Tree.{Tree}
use Rattle.vector_rev.specs.Clock.{Clock, covers, dominates}
use Rattle.vector_rev.specs.Compare.{same}
use Rattle.vector_rev.proofs.ClockLaws.{same_decides, covers-itself}
use Rattle.conflicts.specs.Lists.{In}
use Rattle.conflicts.specs.Document.{Document, member_of, has_rev, content_at, content_now, content_of, document_after}
use Rattle.conflicts.specs.declared.member.Member.{Member}
use Rattle.conflicts.specs.declared.accept.Accept.{Accept}
use Rattle.u1_base.proofs.Booleans.{not_both, none_true, not_true}
use Rattle.conflicts.proofs.Members.{In-left, In-last, In-filter, from_filter, passes_none}
use Rattle.conflicts.proofs.Apart.{same_itself}
use Rattle.conflicts.proofs.Applied.{pruned-fits, accepted_is_there, leads_marked}

-- the members that the accepted revision leaves, and itself
abbrev pub grown : Document → Accept → List Member
grown d a = filter (λ m. not (covers a.rev m.rev)) d.members ++ member_of a ∷ []

-- what it leaves has another clock, since it covers its own
not_among_left : (ms : List Member) (r : Clock) → has_rev (filter (λ m. not (covers r m.rev)) ms) r ≡ false
not_among_left ms r =
    passes_none (λ m. same m.rev r) (filter (λ m. not (covers r m.rev)) ms)
    (λ m left. none_true (same m.rev r) (other m left))
  where
    other : (m : Member) → In m (filter (λ m. not (covers r m.rev)) ms) → same m.rev r ≡ true → ⊥
    other m left is =
        not_both (covers r m.rev) (ap (covers r) ((same_decides m.rev r).0 is) ∙ covers-itself r)
        (not_true (covers r m.rev) (from_filter (λ n. not (covers r n.rev)) m ms left).1)

-- a member with another clock is passed over
passed_over : (b : Bool) (rest : Bool) (one other wanted : Option Tree) → (b || rest) ≡ false
    → (rest ≡ false → other ≡ wanted) → cond b one other ≡ wanted
passed_over true rest one other wanted none later = absurd (not_both true refl none)
passed_over false rest one other wanted none later = later none

-- the content of a clock that stands last, and nowhere before
content_last : (ms : List Member) (n : Member) → has_rev ms n.rev ≡ false → content_at n.rev (ms ++ n ∷ []) ≡ n.content
content_last [] n none = ap (λ b. cond b n.content (content_at n.rev [])) (same_itself n.rev)
content_last (m ∷ ms) n none =
    passed_over (same m.rev n.rev) (has_rev ms n.rev) m.content (content_at n.rev (ms ++ n ∷ [])) n.content none
    (content_last ms n)

module _ (d : Document) (a : Accept) (none : list_any (λ m. dominates m.rev a.rev) d.members ≡ false) where
  pub members_after : (document_after d a).members ≡ grown d a
  members_after = pruned-fits d.members a none

  -- the accepted revision is a member then
  pub is_member : In (member_of a) (document_after d a).members
  is_member = subst (In (member_of a)) (sym members_after) (In-last (member_of a) _)

  -- a member that it does not cover stays one
  pub stays_member : (m : Member) → In m d.members → covers a.rev m.rev ≡ false → In m (document_after d a).members
  stays_member m i uncovered =
      subst (In m) (sym members_after)
      (In-left m _ _ (In-filter (λ n. not (covers a.rev n.rev)) m d.members i (ap not uncovered)))

  module _ (marked : a.current ≡ true) where
    -- marked, it is the current one
    pub takes_over : (document_after d a).current ≡ Some a.rev
    takes_over =
        leads_marked (document_after d a).members d.current a
        (ap (λ (ms : List Member). has_rev ms a.rev) members_after ∙ accepted_is_there _ a) marked

    -- and its content is the document's
    pub is_read : content_of (document_after d a) ≡ a.content
    is_read =
        ap (λ (c : Option Clock). content_now c (document_after d a).members) takes_over
        ∙ ap (content_at a.rev) members_after
        ∙ content_last (filter (λ m. not (covers a.rev m.rev)) d.members) (member_of a) (not_among_left d.members a.rev)
