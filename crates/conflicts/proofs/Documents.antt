-- The members and the current revision step by step are those of the whole list of acceptances.
use Rattle.std.specs.Prelude.{◌≡◌, true, List, [], ◌∷◌, ◌++◌, map, Option, None, refl}
use Rattle.std.proofs.Common.{sym, ◌∙◌, ap, append_assoc, append-nil}
use Rattle.vector_rev.specs.Clock.{Clock, covers}
use Rattle.vector_rev.proofs.ClockLaws.{covers-itself, covers-trans}
use Rattle.conflicts.specs.Lists.{In}
use Rattle.conflicts.specs.Pruning.{undominated, pruned}
use Rattle.conflicts.specs.inner.Pruning.{IsPreorder}
use Rattle.conflicts.specs.Document.{member_of, covers_member, members_of, current_after, current_from, Document}
use Rattle.conflicts.specs.Document.{no_document, document_of, document_after, document_after_all}
use Rattle.conflicts.specs.declared.member.Member.{Member}
use Rattle.conflicts.specs.declared.accept.Accept.{Accept}
use Rattle.conflicts.proofs.Members.{In-map}
use Rattle.conflicts.proofs.Pruned.{undominated-push, all_covered, still_covered}

pub members_preorder : IsPreorder covers_member
members_preorder = record { itself = λ x. covers-itself x.rev; through = λ x y z. covers-trans x.rev y.rev z.rev }

map-push : (h : List Accept) (a : Accept) → map member_of (h ++ a ∷ []) ≡ map member_of h ++ member_of a ∷ []
map-push [] a = refl
map-push (b ∷ h) a = ap (λ r. member_of b ∷ r) (map-push h a)

-- the members after one more acceptance
pub members_of-push : (h : List Accept) (a : Accept)
    → members_of (h ++ a ∷ []) ≡ pruned covers_member (members_of h) (member_of a)
members_of-push h a =
    ap (undominated covers_member) (map-push h a)
    ∙ undominated-push covers_member members_preorder (map member_of h) (member_of a)
    (all_covered covers_member members_preorder (map member_of h))

steps_from : (before : List Accept) (c : Option Clock) (later : List Accept) →
    document_after_all (record { members = members_of before; current = c }) later
    ≡ record { members = members_of (before ++ later); current = current_from before c later }
steps_from before c [] = λ i. record { members = members_of (sym (append-nil before) i); current = c }
steps_from before c (a ∷ later) =
    ap (λ (ms : List Member). document_after_all (record { members = ms; current = current_after ms c a }) later)
    (sym (members_of-push before a))
    ∙ steps_from (before ++ a ∷ []) (current_after (members_of (before ++ a ∷ [])) c a) later
    ∙ (λ i. record {
      members = members_of (append_assoc before (a ∷ []) later i);
      current =
          current_from (before ++ a ∷ []) (current_after (members_of (before ++ a ∷ [])) c a) later;
    })

-- step by step the document of the whole list comes out
pub steps_are_document : (h : List Accept) → document_after_all no_document h ≡ document_of h
steps_are_document h = steps_from [] None h

after_all-append : (d : Document) (xs ys : List Accept)
    → document_after_all d (xs ++ ys) ≡ document_after_all (document_after_all d xs) ys
after_all-append d [] ys = refl
after_all-append d (x ∷ xs) ys = after_all-append (document_after d x) xs ys

-- later acceptances act on the document that the earlier ones leave
pub document_of-append : (xs ys : List Accept) → document_of (xs ++ ys) ≡ document_after_all (document_of xs) ys
document_of-append xs ys =
    sym (steps_are_document (xs ++ ys)) ∙ after_all-append no_document xs ys
    ∙ ap (λ (d : Document). document_after_all d ys) (steps_are_document xs)

-- each accepted revision is covered by a member
pub accepted_covered : (h : List Accept) (a : Accept) → In a h → (m : Member) × In m (members_of h)
    × (covers m.rev a.rev ≡ true)
accepted_covered h a i = all_covered covers_member members_preorder (map member_of h) (member_of a)
    (In-map member_of a h i)

pub document_of-push : (h : List Accept) (a : Accept) → document_of (h ++ a ∷ []) ≡ document_after (document_of h) a
document_of-push h a = document_of-append h (a ∷ [])

-- what a member covers stays covered after one more acceptance
pub stays_covered : (d : Document) (a : Accept) (c : Clock) (m : Member) → In m d.members → covers m.rev c ≡ true
    → (n : Member) × In n (document_after d a).members × (covers n.rev c ≡ true)
stays_covered d a c m i e =
    let n = still_covered covers_member members_preorder d.members (member_of a) m m i (covers-itself m.rev) in
    (n.0, n.1, covers-trans n.0.rev m.rev c n.2 e)
