-- The compaction from the last step to the first, and what is noted on the way.
use Rattle.std.specs.Prelude.{Bool, false, not, ◌&&◌, ◌||◌, List, [], ◌∷◌, ◌++◌, is_some, Option, Some, None}
use Rattle.std.specs.List.{list_any}
use Rattle.std.specs.FinMap.Entries.{find}
use Rattle.u1_base.specs.Ids.{id_cmp, same_id}
use Rattle.vector_rev.specs.Clock.{Clock}
use Rattle.vector_rev.specs.Compare.{same}
use Rattle.conflicts.specs.Lists.{is_empty}
use Rattle.conflicts.specs.State.{Text, Step, History, State, positions_by}
use Rattle.conflicts.specs.declared.moves.Move.{Move}
use Rattle.replica_state.specs.Held.{chosen}
use Rattle.compaction.specs.Compaction.{Later, left, accepts_rev, moves, creates}
use Rattle.compaction.specs.declared.noted.Noted.{Noted}

-- ---- one step more before the later ones

abbrev pub with_accepted : Text → Clock → Later → Later
with_accepted d r l = record {
  accepted = λ e q. same_id e d && same r q
      || l.accepted e q;
  moved = l.moved;
  created = l.created;
}

abbrev pub with_moved : Option Move → Later → Later
with_moved o l = record {
  accepted = l.accepted;
  moved = λ t u. not (is_empty (positions_by t u o))
      || l.moved t u;
  created = l.created;
}

abbrev pub with_created : Text → Later → Later
with_created n l = record { accepted = l.accepted; moved = l.moved; created = λ k. same_id k n || l.created k }

abbrev pub with_step : Step → Later → Later
with_step x l = record {
  accepted = λ d r. accepts_rev d r x || l.accepted d r;
  moved = λ t u. moves t u x || l.moved t u;
  created = λ n. creates n x || l.created n;
}

abbrev pub with_steps : List Step → Later → Later
with_steps [] l = l
with_steps (x ∷ xs) l = with_step x (with_steps xs l)

-- the earlier steps are gone through, the last one first; what is left of each is put before `out` and noted
abbrev pub backward : State → Later → List Step → History → History
backward s l [] out = out
backward s l (x ∷ earlier) out = backward s (with_steps (left s l x) l) earlier (left s l x ++ out)

-- ---- what is noted

abbrev pub has_clock : Option (List Clock) → Clock → Bool
has_clock None r = false
has_clock (Some cs) r = list_any (λ c. same c r) cs

abbrev pub later_of : Noted → Later
later_of n = record {
  accepted = λ d r. has_clock (find id_cmp d n.accepted.pairs) r;
  moved = λ t u. is_some (find id_cmp u (chosen t n.known.pairs n.told.pairs));
  created = λ k. is_some (find id_cmp k n.created.pairs);
}
