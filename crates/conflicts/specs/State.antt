-- The history of a replica, and the state that it leaves: each part of the state is a filter of the whole history.
use Rattle.std.specs.Prelude.{◌≡◌, ◌&&◌, ℕ, Bool, true, false, cond, List, [], ◌∷◌, ◌++◌, Option, Some, None, IsSome}
use Rattle.std.specs.Prelude.{unwrap_or}
use Rattle.std.specs.List.{flat_map}
use Rattle.u1_base.specs.Ids.{same_id}
use Rattle.u1_base.specs.Places.{Place, nowhere}
use Rattle.translog.specs.declared.entry.Entry.{Entry}
use Rattle.translog.specs.Source.{GoesOn}
use Rattle.vector_rev.specs.Counts.{Uid}
use Rattle.vector_rev.specs.Clock.{Clock}
use Rattle.conflicts.specs.Lists.{In, last_or}
use Rattle.conflicts.specs.Document.{Document, document_of, document_after_all, FitsDocument}
use Rattle.conflicts.specs.declared.accept.Accept.{Accept}
use Rattle.conflicts.specs.declared.moves.Move.{Move}
use Rattle.conflicts.specs.declared.moves.PosTable.{PosTable}
use Rattle.conflicts.specs.declared.moves.PosTable.TheVariants.{Known, Told}
use Rattle.conflicts.specs.declared.accept.Making.{Making}
use Rattle.conflicts.specs.declared.accept.Making.TheVariants.{Edit, Resolve, Merge, Received}

-- a document id, a name or the text of an expression, as its bytes
abbrev pub Text : Type 0
Text = List ℕ

abbrev pub same_table : PosTable → PosTable → Bool
same_table Known Known = true
same_table Known Told = false
same_table Told Known = false
same_table Told Told = true

-- one committed step of a replica. `Gone` stands only in a history that was compacted: it keeps the place in the log of
-- an acceptance that was left out
pub data Step : Type 0 where
  -- the document, what is accepted of it, the transaction id, and the move that is made with it
  Accepted : Text → Accept → Text → Option Move → Step
  Gone : Text → Text → Option Move → Step
  Moved : Move → Step
  -- the index's name and the canonical texts of its expressions
  IndexCreated : Text → List Text → Step
  IndexDeleted : Text → Step

abbrev pub History : Type 0
History = List Step

-- ---- what one step says of a document, of the log, of a position and of an index

abbrev pub accepts_in : Text → Step → List Accept
accepts_in d (Accepted e a trans moved) = cond (same_id d e) (a ∷ []) []
accepts_in d (Gone e trans moved) = []
accepts_in d (Moved m) = []
accepts_in d (IndexCreated n es) = []
accepts_in d (IndexDeleted n) = []

abbrev pub entries_in : Step → List Entry
entries_in (Accepted d a trans moved) = record { doc = d; trans = trans } ∷ []
entries_in (Gone d trans moved) = record { doc = d; trans = trans } ∷ []
entries_in (Moved m) = []
entries_in (IndexCreated n es) = []
entries_in (IndexDeleted n) = []

abbrev pub move_of : Step → Option Move
move_of (Accepted d a trans moved) = moved
move_of (Gone d trans moved) = moved
move_of (Moved m) = Some m
move_of (IndexCreated n es) = None
move_of (IndexDeleted n) = None

abbrev pub positions_by : PosTable → Uid → Option Move → List (Option Place)
positions_by t u None = []
positions_by t u (Some m) = cond (same_table t m.table && same_id u m.uid) (Some m.at ∷ []) []

abbrev pub positions_in : PosTable → Uid → Step → List (Option Place)
positions_in t u x = positions_by t u (move_of x)

-- an index is there with its expressions, or it is not
abbrev pub indexes_in : Text → Step → List (Option (List Text))
indexes_in n (Accepted d a trans moved) = []
indexes_in n (Gone d trans moved) = []
indexes_in n (Moved m) = []
indexes_in n (IndexCreated k es) = cond (same_id n k) (Some es ∷ []) []
indexes_in n (IndexDeleted k) = cond (same_id n k) (None ∷ []) []

-- ---- the state

pub record State : Type 0 where
  pub name : Text
  pub uid : Uid
  pub document : Text → Document
  pub log : List Entry
  -- none where it was never moved, which means the place before the first entry
  pub position : PosTable → Uid → Option Place
  pub index : Text → Option (List Text)

-- the state that a history leaves: a document has the acceptances of its steps, the log the entries of all steps, a
-- position and an index are those of the last step that speaks of them
abbrev pub state_of : Text → Uid → History → State
state_of name uid h = record {
  name = name;
  uid = uid;
  document = λ d. document_of (flat_map (accepts_in d) h);
  log = flat_map entries_in h;
  position = λ t u. last_or None (flat_map (positions_in t u) h);
  index = λ n. last_or None (flat_map (indexes_in n) h);
}

-- the state after one more step, by the state before it and the step alone
abbrev pub after : State → Step → State
after s x = record {
  name = s.name;
  uid = s.uid;
  document = λ d. document_after_all (s.document d) (accepts_in d x);
  log = s.log ++ entries_in x;
  position = λ t u. last_or (s.position t u) (positions_in t u x);
  index = λ n. last_or (s.index n) (indexes_in n x);
}

-- the state after a list of steps
abbrev pub after_all : State → List Step → State
after_all s [] = s
after_all s (x ∷ later) = after_all (after s x) later

-- the place that is kept of a peer; where none was ever kept, the one before the first entry
abbrev pub position_kept : State → PosTable → Uid → Place
position_kept s table uid = unwrap_or (s.position table uid) nowhere

-- ---- which step fits

-- a move passes the source check: it does not take the position back from where it is
abbrev pub MoveFits : State → Option Move → Type 0
MoveFits s None = Unit {0}
MoveFits s (Some m) = GoesOn (position_kept s m.table m.uid) m.at

-- a step fits a state: an acceptance by its document and its move, a move by the source check, an index is created
-- where there is none of its name and deleted where there is one
abbrev pub Fits : State → Step → Type 0
Fits s (Accepted d a trans moved) = FitsDocument (s.document d) a × MoveFits s moved
Fits s (Gone d trans moved) = ⊥
Fits s (Moved m) = MoveFits s (Some m)
Fits s (IndexCreated n es) = s.index n ≡ None
Fits s (IndexDeleted n) = IsSome (s.index n)

-- ---- who made a revision, and of which it was made

-- the making is the replica's own
abbrev pub is_own : Making → Bool
is_own Edit = true
is_own Resolve = true
is_own Merge = true
is_own Received = false

-- the replica with this history made the revision that it accepted so
pub record MadeBy (doc : Text) (h : History) (a : Accept) : Type 0 where
  pub accepted : In a (flat_map (accepts_in doc) h)
  pub own : is_own a.making ≡ true

-- in the histories of some replicas, r is among the parents of which s was made
pub record IsParent (of : Uid → History) (doc : Text) (r s : Clock) : Type 0 where
  pub maker : Uid
  pub accept : Accept
  pub made : MadeBy doc (of maker) accept
  pub is : accept.rev ≡ s
  pub named : In r accept.parents

-- r is an ancestor of s: a chain of one or more parent links leads from s to r
pub data IsAncestor (of : Uid → History) (doc : Text) : Clock → Clock → Type 0 where
  parent : {r s : Clock} → IsParent of doc r s → IsAncestor of doc r s
  earlier : {r s t : Clock} → IsParent of doc r s → IsAncestor of doc s t → IsAncestor of doc r t
