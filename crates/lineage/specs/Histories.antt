-- The histories of all replicas: which steps they may grow by, and what clocks and members then say of ancestry.
use Rattle.std.specs.Prelude.{◌≡◌, ◌↔◌, ◌⊎◌, true, cond, List, [], ◌∷◌, ◌++◌}
use Rattle.std.specs.List.{flat_map}
use Rattle.u1_base.specs.Ids.{same_id}
use Rattle.vector_rev.specs.Counts.{Uid}
use Rattle.vector_rev.specs.Clock.{dominates}
use Rattle.conflicts.specs.Lists.{In}
use Rattle.conflicts.specs.Document.{document_of}
use Rattle.conflicts.specs.Laws.{CurrentIs}
use Rattle.conflicts.specs.State.{Text, Step, History, accepts_in, MadeBy, IsAncestor}
use Rattle.conflicts.specs.declared.member.Member.{Member}
use Rattle.conflicts.specs.declared.accept.Accept.{Accept}
use Rattle.lineage.specs.Lineage.{Lines, Arrives, Begins, Lineage, Rising}

-- the history of each replica
abbrev pub Histories : Type 0
Histories = Uid → History

-- what a history accepted of the document
abbrev pub seen : Text → History → List Accept
seen doc h = flat_map (accepts_in doc) h

abbrev pub lines : Text → Histories → Lines
lines doc of u = seen doc (of u)

-- one step more of the replica u
abbrev pub stepped : Histories → Uid → Step → Histories
stepped of u x v = cond (same_id v u) (of v ++ x ∷ []) (of v)

-- what the step accepts was made elsewhere and handed over, or u makes it of what was made
abbrev pub Lawful : Histories → Uid → Step → Type 0
Lawful of u x = (doc : Text) (a : Accept) → In a (accepts_in doc x)
    → Arrives (lines doc of) a ⊎ Begins (lines doc of) u a

abbrev pub Descends : Histories → Type 0
Descends of = (doc : Text) → Lineage (lines doc of)

-- ---- WHAT A CLOCK SAYS is what ancestry says

pub record Ancestry (of : Histories) : Type 0 where
  -- of two made revisions of a document one is newer exactly if it descends from the other
  pub newer : (doc : Text) (u v : Uid) (a b : Accept) → MadeBy doc (of u) a → MadeBy doc (of v) b
      → (dominates b.rev a.rev ≡ true) ↔ IsAncestor of doc a.rev b.rev
  -- equal clocks are one making
  pub one : (doc : Text) (u v : Uid) (a b : Accept) → MadeBy doc (of u) a → MadeBy doc (of v) b → a.rev ≡ b.rev
      → (u ≡ v) × (a ≡ b)
  -- and it stands once in its history: the own counters rise
  pub once : (doc : Text) (u : Uid) → Rising u (seen doc (of u))
  -- a revision has one content in all histories
  pub content : (doc : Text) (u v : Uid) (a b : Accept) → In a (seen doc (of u)) → In b (seen doc (of v))
      → a.rev ≡ b.rev → a.content ≡ b.content

-- ---- NOTHING IS LOST

pub record Cover (of : Histories) : Type 0 where
  -- what a history accepted is a member, or an ancestor of one
  pub kept : (doc : Text) (u : Uid) (a : Accept) → In a (seen doc (of u))
      → (m : Member) × In m (document_of (seen doc (of u))).members
      × ((a.rev ≡ m.rev) ⊎ IsAncestor of doc a.rev m.rev)
  -- the current revision is a member, and there is one where there are members
  pub current : (doc : Text) (u : Uid)
      → CurrentIs (document_of (seen doc (of u))).members (document_of (seen doc (of u))).current
