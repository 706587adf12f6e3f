-- One document over all replicas: what each of them accepted of it, which revision was made of which others, and the
-- six facts that tie the clocks of the makings to their parents.
use Rattle.std.specs.Prelude.{◌≡◌, ◌≢◌, ◌<◌, ◌≤◌, true, false, List, [], ◌∷◌}
use Rattle.vector_rev.specs.Counts.{Uid}
use Rattle.vector_rev.specs.Clock.{Clock, count_of, dominates}
use Rattle.conflicts.specs.Lists.{In}
use Rattle.conflicts.specs.Document.{member_of, members_of}
use Rattle.conflicts.specs.Laws.{IsMade}
use Rattle.conflicts.specs.State.{is_own}
use Rattle.conflicts.specs.declared.member.Member.{Member}
use Rattle.conflicts.specs.declared.accept.Accept.{Accept}

-- the acceptances of the document at each replica, oldest first
abbrev pub Lines : Type 0
Lines = Uid → List Accept

-- the replica u made this revision
pub record Makes (of : Lines) (u : Uid) (a : Accept) : Type 0 where
  pub accepted : In a (of u)
  pub own : is_own a.making ≡ true

-- r is among the parents of which s was made
pub record Parent (of : Lines) (r s : Clock) : Type 0 where
  pub maker : Uid
  pub accept : Accept
  pub made : Makes of maker accept
  pub is : accept.rev ≡ s
  pub named : In r accept.parents

-- a chain of one or more parents leads from s back to r
pub data Ancestor (of : Lines) : Clock → Clock → Type 0 where
  parent : {r s : Clock} → Parent of r s → Ancestor of r s
  earlier : {r s t : Clock} → Parent of r s → Ancestor of s t → Ancestor of r t

-- some replica made the revision, with this content
pub record Was (of : Lines) (m : Member) : Type 0 where
  pub maker : Uid
  pub accept : Accept
  pub made : Makes of maker accept
  pub rev : accept.rev ≡ m.rev
  pub content : accept.content ≡ m.content

-- ---- one acceptance more

-- a revision that another replica handed over: it was made somewhere, with this content
pub record Arrives (of : Lines) (a : Accept) : Type 0 where
  pub received : is_own a.making ≡ false
  pub was : Was of (member_of a)

-- a revision that the replica makes itself, of revisions that were made somewhere
pub record Begins (of : Lines) (u : Uid) (a : Accept) : Type 0 where
  pub own : is_own a.making ≡ true
  pub made : IsMade u (members_of (of u)) a
  pub known : (p : Clock) → In p a.parents → (v : Uid) × (b : Accept) × Makes of v b × (b.rev ≡ p)

-- ---- what holds of all lines

-- the own counters of what the replica u made rise, from each making to all later ones
abbrev pub Rising : Uid → List Accept → Type 0
Rising u [] = Unit {0}
Rising u (a ∷ later) =
    (is_own a.making ≡ true → (b : Accept) → In b later → is_own b.making ≡ true → count_of a.rev u < count_of b.rev u)
    × Rising u later

pub record Lineage (of : Lines) : Type 0 where
  -- what was accepted anywhere was made somewhere, with this content
  pub origin : (u : Uid) (a : Accept) → In a (of u) → Was of (member_of a)
  pub rising : (u : Uid) → Rising u (of u)
  -- a making counts for its maker
  pub counts : (u : Uid) (a : Accept) → Makes of u a → 1 ≤ count_of a.rev u
  -- it is newer than its parents
  pub above : (u : Uid) (a : Accept) → Makes of u a → (p : Clock) → In p a.parents → dominates a.rev p ≡ true
  -- what it counts for another replica, an ancestor counts that the other one made
  pub counted : (u v : Uid) (a : Accept) → Makes of u a → u ≢ v → 1 ≤ count_of a.rev v
      → (b : Accept) × Makes of v b × (count_of b.rev v ≡ count_of a.rev v) × Ancestor of b.rev a.rev
  -- of two makings of one replica the one that counts less is an ancestor of the other
  pub chain : (u : Uid) (a b : Accept) → Makes of u a → Makes of u b → count_of a.rev u < count_of b.rev u
      → Ancestor of a.rev b.rev
