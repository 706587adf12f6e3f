-- What holds of all documents and of all histories.
use Rattle.std.specs.Prelude.{◌≡◌, ◌≢◌, ◌+◌, ◌<◌, ◌⊎◌, Bool, true, false, not, ◌&&◌, List, [], ◌∷◌, ◌++◌, Option, Some}
use Rattle.std.specs.Prelude.{None, IfOk, IfSome}
use Rattle.std.specs.List.{list_any}
use Rattle.content.specs.Tree.{Tree}
use Rattle.vector_rev.specs.Counts.{Uid}
use Rattle.vector_rev.specs.Clock.{Clock, count_of, covers, dominates}
use Rattle.conflicts.specs.Lists.{In}
use Rattle.conflicts.specs.Document.{Document, members_of, document_of, document_after, has_rev, current_member}
use Rattle.conflicts.specs.Document.{content_of, FitsDocument}
use Rattle.conflicts.specs.Kept.{Kept, current, document}
use Rattle.conflicts.specs.Making.{greatest, edited, deleted, resolved}
use Rattle.conflicts.specs.Decision.{decides}
use Rattle.conflicts.specs.State.{Text, Step, History, state_of, after, after_all, is_own}
use Rattle.conflicts.specs.declared.member.Member.{Member}
use Rattle.conflicts.specs.declared.accept.Accept.{Accept}
use Rattle.conflicts.specs.declared.accept.Making.TheVariants.{Received}

-- ---- the members of a history

-- the current revision is that of a member; without one there are no members
abbrev pub CurrentIs : List Member → Option Clock → Type 0
CurrentIs ms None = ms ≡ []
CurrentIs ms (Some c) = (m : Member) × In m ms × (m.rev ≡ c)

-- no two members of the list have one clock
abbrev pub each_once : List Member → Bool
each_once [] = true
each_once (m ∷ ms) = not (has_rev ms m.rev) && each_once ms

-- no member is newer than another one, each stands there once, and the current one is a member
pub record IsDocument (d : Document) : Type 0 where
  pub apart : (m : Member) → In m d.members → list_any (λ n. dominates n.rev m.rev) d.members ≡ false
  pub once : each_once d.members ≡ true
  pub current : CurrentIs d.members d.current

-- the members, pruned at each acceptance, are those of the whole list
pub record MembersAreKept : Type 0 where
  -- one more acceptance changes a document by the acceptance alone
  pub step : (h : List Accept) (a : Accept) → document_of (h ++ a ∷ []) ≡ document_after (document_of h) a
  -- each accepted revision is covered by a member
  pub covered : (h : List Accept) (a : Accept) → In a h → (m : Member) × In m (members_of h)
      × (covers m.rev a.rev ≡ true)
  -- what is covered by a member stays covered
  pub stays : (d : Document) (a : Accept) (c : Clock) (m : Member) → In m d.members → covers m.rev c ≡ true
      → (n : Member) × In n (document_after d a).members × (covers n.rev c ≡ true)
  -- the definitions hold together
  pub documents : (h : List Accept) → IsDocument (document_of h)
  pub kept : (k : Option Kept) → IsDocument (document k)
  -- the current member of a kept document, and its content
  pub member : (k : Kept) → current_member (document (Some k)) ≡ Some (current k)
  pub content : (k : Kept) → content_of (document (Some k)) ≡ (current k).content

-- later steps change the state that a history leaves by these steps alone
pub record StateGoesOn : Type 0 where
  pub step : (name : Text) (uid : Uid) (h : History) (x : Step) →
      state_of name uid (h ++ x ∷ []) ≡ after (state_of name uid h) x
  pub steps : (name : Text) (uid : Uid) (h later : History) →
      state_of name uid (h ++ later) ≡ after_all (state_of name uid h) later

-- ---- what is made

-- a revision is made of its parents at the replica `own`, for a document with these members
pub record IsMade (own : Uid) (ms : List Member) (a : Accept) : Type 0 where
  -- it counts one more for the own uid than any parent, and else as much as the parent that counts most
  pub own_counter : count_of a.rev own ≡ greatest own a.parents + 1
  pub others : (u : Uid) → u ≢ own → count_of a.rev u ≡ greatest u a.parents
  -- which is one of the parents, if there are any
  pub greatest_parent : (u : Uid) → a.parents ≢ [] →
      (p : Clock) × In p a.parents × (count_of p u ≡ greatest u a.parents)
  -- it is newer than each parent
  pub above : (p : Clock) → In p a.parents → dominates a.rev p ≡ true
  -- no member has an own counter above the greatest one among the parents, so the new one is in no member
  pub fresh : (m : Member) → In m ms → count_of m.rev own < count_of a.rev own

-- what an edit, a deletion or a resolution makes fits, is the replica's own, and is made of members
pub record MakesOf (own : Uid) (d : Document) (a : Accept) : Type 0 where
  pub own_making : is_own a.making ≡ true
  pub fits : FitsDocument d a
  pub made : IsMade own d.members a
  pub parents : (p : Clock) → In p a.parents → (m : Member) × In m d.members × (m.rev ≡ p)

-- what is accepted of an incoming revision fits. It is that revision, or it is made of it and of members
pub record TakesOf (own : Uid) (d : Document) (x : Member) (a : Accept) : Type 0 where
  pub fits : FitsDocument d a
  pub received : a.making ≡ Received → (a.rev ≡ x.rev) × (a.content ≡ x.content)
  pub merged : a.making ≢ Received → IsMade own d.members a × In x.rev a.parents × (a.content ≡ x.content)
  pub parents : (p : Clock) → In p a.parents → (p ≡ x.rev) ⊎ ((m : Member) × In m d.members × (m.rev ≡ p))

pub record Makings : Type 0 where
  pub edits : (d : Document) → IsDocument d → (rev : Option Clock) (t : Tree) (own : Uid)
      → IfOk (edited d rev t own) (MakesOf own d)
  pub deletions : (d : Document) → IsDocument d → (rev : Clock) (own : Uid) → IfOk (deleted d rev own) (MakesOf own d)
  pub resolutions : (d : Document) → IsDocument d → (named : List Clock) (t : Option Tree) (own : Uid)
      → IfOk (resolved d named t own) (MakesOf own d)
  pub receipts : (d : Document) → IsDocument d → (x : Member) (save : Bool) (own : Uid)
      → IfSome (decides d x save own).accepted (TakesOf own d x)
