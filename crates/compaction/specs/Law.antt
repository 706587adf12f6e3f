-- What a compaction keeps, and what it costs.
use Rattle.std.specs.Prelude.{◌≡◌, ◌≤◌, List, [], ◌∷◌, ◌++◌, length, map, Option, Some, None}
use Rattle.std.specs.List.{flat_map}
use Rattle.vector_rev.specs.Counts.{Uid}
use Rattle.journal.specs.Image.{Head}
use Rattle.conflicts.specs.Lists.{In}
use Rattle.conflicts.specs.Document.{member_of}
use Rattle.conflicts.specs.State.{Text, History, accepts_in, indexes_in, state_of}
use Rattle.conflicts.specs.declared.accept.Accept.{Accept}
use Rattle.replica_state.specs.Held.{Held, lists_of, meaning}
use Rattle.compaction.specs.Compaction.{compacted, compaction, is_at, trimmed}
use Rattle.compaction.specs.Images.{image_of}

-- the creation of an index that is there
abbrev pub creation_of : Option (List Text) → List (Option (List Text))
creation_of None = []
creation_of (Some es) = Some es ∷ []

pub record CompactionKeeps : Type 0 where
  -- nothing of the state is lost: documents, log, positions and indexes
  pub state : (name : Text) (uid : Uid) (h : History) → state_of name uid (compaction h) ≡ state_of name uid h
  -- nor of what later steps make of it, whether they fit or not
  pub goes_on : (name : Text) (uid : Uid) (h later : History) →
      state_of name uid (compaction h ++ later) ≡ state_of name uid (h ++ later)
  -- so a replica that stands for the compaction has the lists of one that stands for the history
  pub lists : (name : Text) (uid : Uid) (h : History) (x y : Held) → meaning x ≡ state_of name uid (compaction h)
      → meaning y ≡ state_of name uid h → lists_of x ≡ lists_of y
  -- of each document just the acceptances of its members are left, in their order, and just the current one is marked
  pub members : (name : Text) (uid : Uid) (d : Text) (h : History) →
      map member_of (flat_map (accepts_in d) (compaction h)) ≡ ((state_of name uid h).document d).members
  pub marks : (name : Text) (uid : Uid) (d : Text) (h : History) (a : Accept) →
      In a (flat_map (accepts_in d) (compaction h)) → a.current ≡ is_at ((state_of name uid h).document d).current a.rev
  -- of each index one creation is left, if it is there
  pub indexes : (name : Text) (uid : Uid) (n : Text) (h : History) →
      flat_map (indexes_in n) (compaction h) ≡ creation_of ((state_of name uid h).index n)
  -- compacting again changes nothing
  pub again : (h : History) → compaction (compaction h) ≡ compaction h
  -- there are no more steps, and the image is no longer than that of the history
  pub shorter : (h : History) → length (compaction h) ≤ length h
  pub bytes : (head : Head) (h : History) → length (image_of head (compaction h)) ≤ length (image_of head h)
  -- the state alone tells which steps need not be kept while the later ones are read
  pub trims : (name : Text) (uid : Uid) (h : History)
      → compacted (state_of name uid h) (trimmed (state_of name uid h) h) ≡ compaction h
  -- the state at the end is that of any replica
  pub by_state : (name : Text) (uid : Uid) (h : History) → compacted (state_of name uid h) h ≡ compaction h
