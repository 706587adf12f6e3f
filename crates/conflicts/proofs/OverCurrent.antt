-- Acceptances that do not fit: a dominated one changes nothing, and another one takes over as if it were marked.
use Rattle.std.specs.Prelude.{◌≡◌, Bool, true, false, cond, not, ◌&&◌, ◌||◌, List, [], ◌∷◌, ◌++◌, filter, Option, Some}
use Rattle.std.specs.Prelude.{None, refl}
use Rattle.std.specs.List.{list_any}
use Rattle.std.proofs.Common.{sym, ◌∙◌, ap, inl, inr}
use Rattle.vector_rev.specs.Clock.{Clock, covers, dominates}
use Rattle.vector_rev.specs.Compare.{same}
use Rattle.vector_rev.proofs.ClockLaws.{same_decides}
use Rattle.conflicts.specs.Lists.{In}
use Rattle.conflicts.specs.Pruning.{pruned}
use Rattle.conflicts.specs.Document.{Document, member_of, covers_member, has_rev, current_after, document_after}
use Rattle.conflicts.specs.Document.{StaysBeside, FitsDocument}
use Rattle.conflicts.specs.Laws.{IsDocument}
use Rattle.conflicts.specs.Acceptances.{Unfitting, marked}
use Rattle.conflicts.specs.declared.member.Member.{Member}
use Rattle.conflicts.specs.declared.accept.Accept.{Accept}
use Rattle.u1_base.proofs.Booleans.{none_true, some_true, not_both, not_true}
use Rattle.conflicts.proofs.Members.{found, passes_none, In-push, from_filter}
use Rattle.conflicts.proofs.Applied.{pruned-fits, accepted_is_there, leads_marked}
use Rattle.conflicts.proofs.Accepted.{grown}

-- ---- a member is newer

module _ (d : Document) (a : Accept) (newer : list_any (λ m. dominates m.rev a.rev) d.members ≡ true) where
  -- then the revision is no member, since no member is newer than another one
  no_member : IsDocument d → has_rev d.members a.rev ≡ false
  no_member w = passes_none (λ m. same m.rev a.rev) d.members (λ m i. none_true (same m.rev a.rev) (other m i))
    where
      other : (m : Member) → In m d.members → same m.rev a.rev ≡ true → ⊥
      other m i is =
          not_both (list_any (λ n. dominates n.rev m.rev) d.members)
          (ap (λ (c : Clock). list_any (λ n. dominates n.rev c) d.members) ((same_decides m.rev a.rev).0 is) ∙ newer)
          (w.apart m i)

  -- what is no member does not become the current one
  not_current : (c : Option Clock) → has_rev d.members a.rev ≡ false → current_after d.members c a ≡ c
  not_current None none = ap (λ b. cond b (Some a.rev) None) none
  not_current (Some c) none =
      ap (λ b. cond (b && (a.current || not (has_rev d.members c))) (Some a.rev) (Some c)) none

  same_members : pruned covers_member d.members (member_of a) ≡ d.members
  same_members = ap (λ b. cond b d.members (grown d a)) newer

  changes_nothing : IsDocument d → document_after d a ≡ d
  changes_nothing w =
      ap (λ (ms : List Member). record { members = ms; current = current_after ms d.current a }) same_members
      ∙ ap (λ (c : Option Clock). record { members = d.members; current = c }) (not_current d.current (no_member w))

-- ---- no member is newer

-- the document whose current revision is the accepted one
abbrev taken_over : Document → Accept → Document
taken_over d a = record { members = grown d a; current = Some a.rev }

module _ (d : Document) (a : Accept) (none : list_any (λ m. dominates m.rev a.rev) d.members ≡ false) where
  -- a covered revision that is a member afterwards is the accepted one
  covered_is_accepted : (c : Clock) → covers a.rev c ≡ true → has_rev (grown d a) c ≡ true → a.rev ≡ c
  covered_is_accepted c over there =
      elim (In-push f.0 (member_of a) (filter (λ m. not (covers a.rev m.rev)) d.members) f.1) [
        | inl left ↦
            absurd (not_both (covers a.rev f.0.rev) (ap (covers a.rev) is ∙ over)
            (not_true (covers a.rev f.0.rev) (from_filter (λ m. not (covers a.rev m.rev)) f.0 d.members left).1))
        | inr last ↦ ap (λ (m : Member). m.rev) (sym last) ∙ is
      ]
    where
      f : (m : Member) × In m (grown d a) × (same m.rev c ≡ true)
      f = found (λ m. same m.rev c) (grown d a) there

      is : f.0.rev ≡ c
      is = (same_decides f.0.rev c).0 f.2

  -- so where it covers the current revision, marked or not, it is the current one
  over_current : (c : Clock) → covers a.rev c ≡ true → current_after (grown d a) (Some c) a ≡ Some a.rev
  over_current c over =
      ap (λ b. cond (b && (a.current || not (has_rev (grown d a) c))) (Some a.rev) (Some c)) (accepted_is_there _ a)
      ∙ by_former (has_rev (grown d a) c) refl
    where
      -- either way one value
      alike : (b : Bool) → a.rev ≡ c → cond b (Some a.rev) (Some c) ≡ Some a.rev
      alike true e = refl
      alike false e = ap Some (sym e)

      or_true : (b : Bool) → (b || true) ≡ true
      or_true true = refl
      or_true false = refl

      by_former : (h : Bool) → has_rev (grown d a) c ≡ h → cond (a.current || not h) (Some a.rev) (Some c) ≡ Some a.rev
      by_former true there = alike (a.current || false) (covered_is_accepted c over there)
      by_former false gone = ap (λ b. cond b (Some a.rev) (Some c)) (or_true a.current)

  -- and so where there is no current revision
  over_none : current_after (grown d a) None a ≡ Some a.rev
  over_none = ap (λ b. cond b (Some a.rev) None) (accepted_is_there _ a)

  over_any : (c : Option Clock) → (StaysBeside c a.rev → ⊥) → current_after (grown d a) c a ≡ Some a.rev
  over_any None unkept = over_none
  over_any (Some c) unkept = over_current c (some_true (covers a.rev c) unkept)

  takes_over_unmarked : ¬ (FitsDocument d a) → document_after d a ≡ taken_over d a
  takes_over_unmarked unfit =
      ap (λ (ms : List Member). record { members = ms; current = current_after ms d.current a })
      (pruned-fits d.members a none)
      ∙ ap (λ (c : Option Clock). record { members = grown d a; current = c })
      (over_any d.current (λ kept. unfit (record { not_older = none; settled = inr kept })))

  takes_over_marked : document_after d (marked a) ≡ taken_over d a
  takes_over_marked =
      ap (λ (ms : List Member). record { members = ms; current = current_after ms d.current (marked a) })
      (pruned-fits d.members a none)
      ∙ ap (λ (c : Option Clock). record { members = grown d a; current = c })
      (leads_marked (grown d a) d.current (marked a) (accepted_is_there _ a) refl)

pub law : Unfitting
law = record {
  dominated = λ d a w newer. changes_nothing d a newer w;
  unmarked = λ d a w none unfit. takes_over_unmarked d a none unfit ∙ sym (takes_over_marked d a none);
  marked_fits = λ d a none. record { not_older = none; settled = inl refl };
}
