-- The compaction of a history: which of its steps are left, and how.
use Rattle.std.specs.Prelude.{Bool, false, cond, not, ◌&&◌, List, [], ◌∷◌, ◌++◌, is_some, Option, Some, None}
use Rattle.std.specs.List.{flat_map, list_any}
use Rattle.u1_base.specs.Ids.{same_id}
use Rattle.vector_rev.specs.Counts.{Uid}
use Rattle.vector_rev.specs.Clock.{Clock}
use Rattle.vector_rev.specs.Compare.{same}
use Rattle.conflicts.specs.Lists.{is_empty}
use Rattle.conflicts.specs.Document.{has_rev}
use Rattle.conflicts.specs.State.{Text, Step, Accepted, Gone, Moved, IndexCreated, IndexDeleted, History, State}
use Rattle.conflicts.specs.State.{accepts_in, positions_in, state_of}
use Rattle.conflicts.specs.declared.accept.Accept.{Accept}
use Rattle.conflicts.specs.declared.moves.PosTable.{PosTable}

-- ---- what a step does, as later steps may do it again

-- it accepts the revision of the document
abbrev pub accepts_rev : Text → Clock → Step → Bool
accepts_rev d r x = list_any (λ a. same a.rev r) (accepts_in d x)

-- it moves the position of the uid, by itself or with an acceptance
abbrev pub moves : PosTable → Uid → Step → Bool
moves t u x = not (is_empty (positions_in t u x))

-- it creates an index of the name
abbrev pub creates : Text → Step → Bool
creates n (Accepted d a trans moved) = false
creates n (Gone d trans moved) = false
creates n (Moved m) = false
creates n (IndexCreated k es) = same_id n k
creates n (IndexDeleted k) = false

-- what the later steps do: the revisions that they accept, the positions that they move, the indexes that they create
pub record Later : Type 0 where
  pub accepted : Text → Clock → Bool
  pub moved : PosTable → Uid → Bool
  pub created : Text → Bool

abbrev pub later_in : List Step → Later
later_in xs = record {
  accepted = λ d r. list_any (accepts_rev d r) xs;
  moved = λ t u. list_any (moves t u) xs;
  created = λ n. list_any (creates n) xs;
}

abbrev pub nothing_later : Later
nothing_later = record { accepted = λ d r. false; moved = λ t u. false; created = λ n. false }

-- ---- what is left of one step

abbrev pub is_at : Option Clock → Clock → Bool
is_at None r = false
is_at (Some c) r = same r c

-- the acceptance, marked current exactly where its revision is the current one
abbrev pub marked_by : Option Clock → Accept → Accept
marked_by c a = record {
  rev = a.rev;
  content = a.content;
  making = a.making;
  parents = a.parents;
  current =
      is_at c a.rev;
}

-- By the state at the end, and by what the later steps do: of an acceptance whose revision is a member at the end, and
-- that is the last one of it, all but its mark; of another one its place in the log and its move; the last move of a
-- position; the last creation of an index that is there at the end.
abbrev pub left : State → Later → Step → List Step
left s l (Accepted d a trans moved) =
    cond (has_rev (s.document d).members a.rev && not (l.accepted d a.rev))
    (Accepted d (marked_by (s.document d).current a) trans moved ∷ []) (Gone d trans moved ∷ [])
left s l (Gone d trans moved) = Gone d trans moved ∷ []
left s l (Moved m) = cond (l.moved m.table m.uid) [] (Moved m ∷ [])
left s l (IndexCreated n es) = cond (is_some (s.index n) && not (l.created n)) (IndexCreated n es ∷ []) []
left s l (IndexDeleted n) = []

-- ---- the compaction

-- what is left of each step, in order, where this is the state at the end
abbrev pub compacted : State → History → History
compacted s [] = []
compacted s (x ∷ later) = left s (later_in later) x ++ compacted s later

-- what is left of each step if no later one does the same: what the state alone tells of them
abbrev pub trimmed : State → History → History
trimmed s h = flat_map (left s nothing_later) h

-- THE COMPACTION of a history. It does not depend on the name and the uid of the replica
abbrev pub compaction : History → History
compaction h = compacted (state_of [] [] h) h
