-- In each document no member is newer than another one, and the current revision is that of a member.
use Rattle.std.specs.Prelude.{◌≡◌, Bool, true, false, cond, not, ◌&&◌, ◌||◌, List, [], ◌∷◌, ◌++◌, filter, Option, Some}
use Rattle.std.specs.Prelude.{None, refl}
use Rattle.std.specs.List.{list_any}
use Rattle.std.proofs.Common.{sym, ◌∙◌, ap, ap₂, subst, inl}
use Rattle.vector_rev.specs.Clock.{Clock, covers, dominates}
use Rattle.vector_rev.specs.Compare.{same}
use Rattle.vector_rev.proofs.ClockLaws.{same_decides}
use Rattle.conflicts.specs.Pruning.{pruned, is_above}
use Rattle.conflicts.specs.Document.{member_of, covers_member, members_of, has_rev, current_after, Document}
use Rattle.conflicts.specs.Document.{no_document, document_of, document_after, document_after_all}
use Rattle.conflicts.specs.Kept.{Kept, all_apart, current, document}
use Rattle.conflicts.specs.Laws.{CurrentIs, IsDocument}
use Rattle.conflicts.specs.declared.member.Member.{Member}
use Rattle.conflicts.specs.declared.accept.Accept.{Accept}
use Rattle.conflicts.proofs.Members.{found, finds, In-last}
use Rattle.conflicts.proofs.Documents.{steps_are_document}
use Rattle.conflicts.proofs.Apart.{same_itself, apart_once, apart_with, none_newer_than}
use Rattle.conflicts.proofs.Sets.{current_in, kept_apart}

-- ---- the members of a history: no two are ordered

-- one more acceptance leaves them so
still_apart : (ms : List Member) (a : Member) → all_apart ms ≡ true → all_apart (pruned covers_member ms a) ≡ true
still_apart ms a h =
    elim (list_any (λ m. dominates m.rev a.rev) ms) as
    (λ b. list_any (λ m. dominates m.rev a.rev) ms ≡ b
    → all_apart (cond b ms (filter (λ m. not (covers a.rev m.rev)) ms ++ a ∷ [])) ≡ true) [
      | true ↦ λ _. h
      | false ↦ λ none. apart_with ms a h none
    ] refl

all_still_apart : (d : Document) (later : List Accept) → all_apart d.members ≡ true
    → all_apart (document_after_all d later).members ≡ true
all_still_apart d [] h = h
all_still_apart d (a ∷ later) h = all_still_apart (document_after d a) later (still_apart d.members (member_of a) h)

history_apart : (h : List Accept) → all_apart (members_of h) ≡ true
history_apart h =
    subst (λ (d : Document). all_apart d.members ≡ true) (steps_are_document h) (all_still_apart no_document h refl)

-- ---- the current one

has_member : (c : Clock) (ms : List Member) → has_rev ms c ≡ true → CurrentIs ms (Some c)
has_member c ms e = let f = found (λ m. same m.rev c) ms e in (f.0, f.1, (same_decides f.0.rev c).0 f.2)

pub member_has : (c : Clock) (ms : List Member) → CurrentIs ms (Some c) → has_rev ms c ≡ true
member_has c ms m =
    finds (λ n. same n.rev c) m.0 ms m.1 (ap (λ (k : Clock). same k c) m.2 ∙ same_itself c)

-- a current revision that is none of the members after an acceptance gives way to the accepted one
pub current_stays : (d : Document) (a : Accept) (c : Option Clock) → CurrentIs d.members c
    → CurrentIs (pruned covers_member d.members (member_of a))
    (current_after (pruned covers_member d.members (member_of a)) c a)
current_stays d a None none =
    subst (λ (ms : List Member). CurrentIs (pruned covers_member ms (member_of a))
    (current_after (pruned covers_member ms (member_of a)) None a)) (sym none)
    (subst (λ b. CurrentIs (member_of a ∷ []) (cond b (Some a.rev) None))
    (sym (ap (λ b. b || false) (same_itself a.rev))) (member_of a, inl refl, refl))
current_stays d a (Some c) m =
    elim (list_any (λ n. is_above covers_member n (member_of a)) d.members) as
    (λ b. (b ≡ list_any (λ n. is_above covers_member n (member_of a)) d.members)
    → CurrentIs (cond b d.members (filter (λ n. not (covers_member (member_of a) n)) d.members ++ member_of a ∷ []))
    (current_after (cond b d.members (filter (λ n. not (covers_member (member_of a) n)) d.members ++ member_of a ∷ []))
    (Some c) a)) [
      | true ↦ λ _. either d.members (member_has c d.members m)
      | false ↦ λ _. accepted_in (filter (λ n. not (covers_member (member_of a) n)) d.members ++ member_of a ∷ [])
          (finds (λ n. same n.rev a.rev) (member_of a) _ (In-last (member_of a) _) (same_itself a.rev))
    ] refl
  where
    -- where the former one is a member still
    either : (ms : List Member) → has_rev ms c ≡ true → CurrentIs ms (current_after ms (Some c) a)
    either ms here =
        elim (has_rev ms a.rev) as (λ b. has_rev ms a.rev ≡ b
        → CurrentIs ms (cond (b && (a.current || not (has_rev ms c))) (Some a.rev) (Some c))) [
          | true ↦ λ e. elim (a.current || not (has_rev ms c)) as (λ k. CurrentIs ms (cond k (Some a.rev) (Some c))) [
            | true ↦ has_member a.rev ms e
            | false ↦ has_member c ms here
          ]
          | false ↦ λ _. has_member c ms here
        ] refl

    -- where the accepted one is a member
    accepted_in : (ms : List Member) → has_rev ms a.rev ≡ true → CurrentIs ms (current_after ms (Some c) a)
    accepted_in ms e =
        elim (has_rev ms c) as (λ h. has_rev ms c ≡ h
        → CurrentIs ms (cond (has_rev ms a.rev && (a.current || not h)) (Some a.rev) (Some c))) [
          | true ↦ λ here. subst (λ h. CurrentIs ms
              (cond (has_rev ms a.rev && (a.current || not h)) (Some a.rev) (Some c))) here (either ms here)
          | false ↦ λ _. subst (λ b. CurrentIs ms (cond b (Some a.rev) (Some c)))
              (sym (ap₂ (λ x y. x && y) e (or_true a.current))) (has_member a.rev ms e)
        ] refl
      where
        or_true : (b : Bool) → (b || not false) ≡ true
        or_true true = refl
        or_true false = refl

current_all : (d : Document) (later : List Accept) → CurrentIs d.members d.current
    → CurrentIs (document_after_all d later).members (document_after_all d later).current
current_all d [] w = w
current_all d (a ∷ later) w = current_all (document_after d a) later (current_stays d a d.current w)

pub document_of-IsDocument : (h : List Accept) → IsDocument (document_of h)
document_of-IsDocument h = record {
  apart = none_newer_than (members_of h) (history_apart h);
  once = apart_once (members_of h) (history_apart h);
  current = subst (λ (d : Document). CurrentIs d.members d.current) (steps_are_document h)
      (current_all no_document h refl);
}

-- ---- a kept document

pub kept-IsDocument : (k : Option Kept) → IsDocument (document k)
kept-IsDocument None = record { apart = λ m i. absurd i; once = refl; current = refl }
kept-IsDocument (Some k) = record {
  apart = none_newer_than k.members (kept_apart k);
  once = apart_once k.members (kept_apart k);
  current = (current k, current_in k, refl);
}
