-- A document: which of its accepted revisions are its members, and which of them is the current one.
use Rattle.std.specs.Prelude.{◌≡◌, ◌⊎◌, Bool, true, false, cond, not, ◌&&◌, ◌||◌, List, [], ◌∷◌, ◌++◌, length, filter}
use Rattle.std.specs.Prelude.{map, nat_lt, is_some, Option, Some, None}
use Rattle.std.specs.List.{list_any}
use Rattle.std.specs.Option.{option_map}
use Rattle.content.specs.Tree.{Tree}
use Rattle.vector_rev.specs.Clock.{Clock, covers, dominates}
use Rattle.vector_rev.specs.Compare.{same}
use Rattle.conflicts.specs.Pruning.{undominated, pruned}
use Rattle.conflicts.specs.declared.member.Member.{Member}
use Rattle.conflicts.specs.declared.accept.Accept.{Accept}

-- ---- the members

abbrev pub member_of : Accept → Member
member_of a = record { rev = a.rev; content = a.content }

abbrev pub covers_member : Member → Member → Bool
covers_member a b = covers a.rev b.rev

-- the accepted revisions that no other one dominates, each once with the content of its last acceptance, in the order
-- of their last acceptances
abbrev pub members_of : List Accept → List Member
members_of h = undominated covers_member (map member_of h)

abbrev pub has_rev : List Member → Clock → Bool
has_rev ms c = list_any (λ m. same m.rev c) ms

-- ---- the current one

-- the current revision after an acceptance, by the members that there are then and the former current one: the accepted
-- revision, if it is a member, where it is marked current, or where the former one is no member any more, or where
-- there was none; else the former one
abbrev pub current_after : List Member → Option Clock → Accept → Option Clock
current_after ms None a = cond (has_rev ms a.rev) (Some a.rev) None
current_after ms (Some c) a = cond (has_rev ms a.rev && (a.current || not (has_rev ms c))) (Some a.rev) (Some c)

-- over the later acceptances, from those so far and the current revision after them
abbrev pub current_from : List Accept → Option Clock → List Accept → Option Clock
current_from before c [] = c
current_from before c (a ∷ later) =
    current_from (before ++ a ∷ []) (current_after (members_of (before ++ a ∷ [])) c a) later

abbrev pub current_of : List Accept → Option Clock
current_of h = current_from [] None h

-- ---- a document as its members and its current revision; one that is not there has neither

pub record Document : Type 0 where
  pub members : List Member
  pub current : Option Clock

abbrev pub no_document : Document
no_document = record { members = []; current = None }

-- the document that a list of acceptances leaves
abbrev pub document_of : List Accept → Document
document_of h = record { members = members_of h; current = current_of h }

-- one more acceptance on what is there
abbrev pub document_after : Document → Accept → Document
document_after d a =
    let ms = pruned covers_member d.members (member_of a)
    in record { members = ms; current = current_after ms d.current a }

abbrev pub document_after_all : Document → List Accept → Document
document_after_all d [] = d
document_after_all d (a ∷ later) = document_after_all (document_after d a) later

-- ---- what is asked of a document

-- the members that are not the current one, in their order
abbrev pub others : Clock → List Member → List Member
others c ms = filter (λ m. not (same m.rev c)) ms

-- the current member first, then the others
abbrev pub in_order : Clock → List Member → List Member
in_order c ms = filter (λ m. same m.rev c) ms ++ others c ms

-- the content of the revision, none where it has none
abbrev pub content_at : Clock → List Member → Option Tree
content_at c [] = None
content_at c (m ∷ ms) = cond (same m.rev c) m.content (content_at c ms)

-- the document is in conflict: it has more than one member
abbrev pub is_conflicted : Document → Bool
is_conflicted d = nat_lt 1 (length d.members)

abbrev pub content_now : Option Clock → List Member → Option Tree
content_now None ms = None
content_now (Some c) ms = content_at c ms

-- the content of the current member
abbrev pub content_of : Document → Option Tree
content_of d = content_now d.current d.members

-- the current member
abbrev pub current_member : Document → Option Member
current_member d = option_map (λ c. record { rev = c; content = content_at c d.members }) d.current

-- the document is live: its current member has a content
abbrev pub is_live : Document → Bool
is_live d = is_some (content_of d)

-- ---- which acceptance fits

-- a current revision is there, and the accepted clock does not cover it, so both stay
abbrev pub StaysBeside : Option Clock → Clock → Type 0
StaysBeside None r = ⊥
StaysBeside (Some c) r = covers r c ≡ false

-- no member is newer, and the revision is marked current unless a current one stays beside it
pub record FitsDocument (d : Document) (a : Accept) : Type 0 where
  pub not_older : list_any (λ m. dominates m.rev a.rev) d.members ≡ false
  pub settled : (a.current ≡ true) ⊎ StaysBeside d.current a.rev
