-- The definitions at small states, by computation.
use Rattle.std.proofs.Common.{◌≡◌, true, false, [], ◌∷◌, refl, inl, inr, arith}
use Rattle.std.specs.Prelude.{ℕ, codes, List, Some, None, Ok, Err}
use Rattle.content.specs.Tree.{Tree, field, no_fields, object, text}
use Rattle.u1_base.specs.Places.{Place}
use Rattle.vector_rev.specs.Clock.{Clock}
use Rattle.conflicts.specs.Kept.{Kept}
use Rattle.conflicts.specs.State.{State, Text, IndexCreated, IndexDeleted as Deleted, Moved, after, state_of}
use Rattle.conflicts.specs.declared.member.Member.{Member}
use Rattle.translog.specs.declared.entry.Entry.{Entry}
use Rattle.replica_state.specs.Held.{Lists, meaning_of}
use Rattle.replica_core.specs.Commands.Documents.{all_effect, conflicts_effect, get_effect}
use Rattle.replica_core.specs.Commands.Edits.{delete_effect, put_effect}
use Rattle.replica_core.specs.Commands.Effects.{Conflict, Document as DocumentLine, Edit, Generation, Index}
use Rattle.replica_core.specs.Commands.Effects.{IndexDeleted, IndexMade, Known, NoDocument, Now, OfDatabase, OfIndex}
use Rattle.replica_core.specs.Commands.Effects.{OfReplica, Query, Told, Changed, prints}
use Rattle.replica_core.specs.Commands.Indexes.{index_create_effect, index_delete_effect, index_list_effect}
use Rattle.replica_core.specs.Commands.Indexes.{query_effect, range_effect}
use Rattle.replica_core.specs.Commands.Logs.{changes_effect, info_effect}
use Rattle.translog.specs.Log.{FitsLog}
use Rattle.replica_core.specs.declared.calls.documents.PutFault.TheVariants as put_fault
use Rattle.replica_core.specs.declared.calls.indexes.IndexFault.TheVariants.{IndexTaken, IndexUnknown}
use Rattle.conflicts.specs.declared.moves.Move.{Move}
use Rattle.conflicts.specs.declared.moves.PosTable.TheVariants as table
use Rattle.conflicts.specs.Writing.{Answers, Refuses}
use Rattle.replica_core.specs.CallsDecide.{move_decides}
use Rattle.conflicts.specs.inner.Paired.{Paired}
use Rattle.replica_core.specs.Runs.{steps_made, steps_written}
use Rattle.replica_core.specs.declared.calls.receipts.TakeFault.TheVariants.{LogCheck}
use Rattle.replica_core.specs.declared.list.Call.{Call}
use Rattle.replica_core.specs.declared.list.Call.TheVariants.{MovePosition}
use Rattle.replica_core.specs.declared.list.CallFault.TheVariants.{Disk, Refused}
use Rattle.replica_reads.specs.declared.fault.QueryFault.TheVariants.{WrongWidth}

-- ---- a state: d1 in conflict, d2 deleted, d3 live

abbrev a1 : Clock
a1 = record { entries = (codes "a", 1) ∷ []; well = tt }

abbrev a2 : Clock
a2 = record { entries = (codes "a", 2) ∷ []; well = tt }

abbrev b1 : Clock
b1 = record { entries = (codes "b", 1) ∷ []; well = tt }

-- the content `{"v":WORD}`
abbrev v : Text → Tree
v word = object (field (codes "v") (text word) no_fields)

abbrev a_member : Member
a_member = record { rev = a1; content = Some (v (codes "a")) }

abbrev b_member : Member
b_member = record { rev = b1; content = Some (v (codes "b")) }

abbrev gone_member : Member
gone_member = record { rev = a2; content = None }

abbrev in_conflict : Kept
in_conflict = record { members = a_member ∷ b_member ∷ []; place = 1; there = tt; apart = tt }

abbrev deleted : Kept
deleted = record { members = gone_member ∷ []; place = 0; there = tt; apart = tt }

abbrev alone : Kept
alone = record { members = a_member ∷ []; place = 0; there = tt; apart = tt }

abbrev entry : Text → Text → Entry
entry doc trans = record { doc = doc; trans = trans }

abbrev place : ℕ → Text → Place
place generation trans = record { generation = generation; trans = Some trans }

abbrev lists : Lists
lists = record {
  name = codes "db";
  uid = codes "a";
  docs = (codes "d1", in_conflict) ∷ (codes "d2", deleted) ∷ (codes "d3", alone) ∷ [];
  log = entry (codes "d1") (codes "T1") ∷ entry (codes "d1") (codes "T2") ∷ entry (codes "d2") (codes "T3")
      ∷ entry (codes "d3") (codes "T4") ∷ [];
  known = (codes "b", place 3 (codes "K")) ∷ [];
  told = (codes "c", place 2 (codes "T2")) ∷ [];
  indexes = (codes "i", codes "v" ∷ []) ∷ [];
}

get_conflicted : get_effect (meaning_of lists) (codes "d1") false
    ≡ prints (DocumentLine (codes "d1") b_member true ∷ [])
get_conflicted = refl

get_deleted : get_effect (meaning_of lists) (codes "d2") false ≡ prints (NoDocument ∷ [])
get_deleted = refl

get_deleted_too : get_effect (meaning_of lists) (codes "d2") true
    ≡ prints (DocumentLine (codes "d2") gone_member false ∷ [])
get_deleted_too = refl

get_nothing : get_effect (meaning_of lists) (codes "d9") true ≡ prints (NoDocument ∷ [])
get_nothing = refl

conflicts_of_two : conflicts_effect (meaning_of lists) (codes "d1")
    ≡ prints (Conflict b_member ∷ Conflict a_member ∷ [])
conflicts_of_two = refl

conflicts_of_one : conflicts_effect (meaning_of lists) (codes "d3") ≡ prints []
conflicts_of_one = refl

all_live : all_effect lists false ≡ prints
    (Generation 4 ∷ DocumentLine (codes "d1") b_member true ∷ DocumentLine (codes "d3") a_member false ∷ [])
all_live = refl

changes_since_2 : changes_effect (meaning_of lists) 2
    ≡ prints (Now (place 4 (codes "T4")) ∷ Changed (record { doc = codes "d2"; generation = 3; trans = codes "T3" })
    ∷ Changed (record { doc = codes "d3"; generation = 4; trans = codes "T4" }) ∷ [])
changes_since_2 = refl

info : info_effect lists ≡ prints
    (OfReplica (codes "a") ∷ OfDatabase (codes "db") ∷ Now (place 4 (codes "T4"))
    ∷ Known (codes "b") (place 3 (codes "K")) ∷ Told (codes "c") (place 2 (codes "T2")) ∷ [])
info = refl

-- ---- refusals, and what needs no step

put_in_conflict : put_effect (meaning_of lists) 0 (codes "d1") (Some b1) (v (codes "x"))
    ≡ Err (Edit put_fault.Conflicted)
put_in_conflict = refl

put_another : put_effect (meaning_of lists) 0 (codes "d3") None (v (codes "x"))
    ≡ Err (Edit (put_fault.RevisionConflict a1))
put_another = refl

delete_again : delete_effect (meaning_of lists) 0 (codes "d2") a2 ≡ Err (Edit put_fault.AlreadyDeleted)
delete_again = refl

delete_nothing : delete_effect (meaning_of lists) 0 (codes "d9") a1 ≡ Err (Edit put_fault.NoDocument)
delete_nothing = refl

same_index : index_create_effect lists (codes "i") (codes "v" ∷ []) ≡ prints (IndexMade (codes "i") ∷ [])
same_index = refl

other_index : index_create_effect lists (codes "i") (codes "w" ∷ []) ≡ Err (OfIndex IndexTaken)
other_index = refl

new_index : index_create_effect lists (codes "j") (codes "v" ∷ [])
    ≡ Ok (record { steps = IndexCreated (codes "j") (codes "v" ∷ []) ∷ []; lines = IndexMade (codes "j") ∷ [] })
new_index = refl

no_index : index_delete_effect lists (codes "j") ≡ Err (OfIndex IndexUnknown)
no_index = refl

index_goes : index_delete_effect lists (codes "i")
    ≡ Ok (record { steps = Deleted (codes "i") ∷ []; lines = IndexDeleted (codes "i") ∷ [] })
index_goes = refl

indexes : index_list_effect lists ≡ prints (Index (codes "i") (codes "v" ∷ []) ∷ [])
indexes = refl

query_nothing : query_effect lists (codes "j") (codes "*" ∷ []) ≡ Err (OfIndex IndexUnknown)
query_nothing = refl

query_wide : query_effect lists (codes "i") (codes "*" ∷ codes "*" ∷ []) ≡ Err (Query WrongWidth)
query_wide = refl

range_wide : range_effect lists (codes "i") (Some (codes "a" ∷ codes "b" ∷ [])) None ≡ Err (Query WrongWidth)
range_wide = refl

-- ---- paired states

abbrev new_state : Text → State
new_state uid = state_of (codes "db") uid []

nothing_there : (r : Clock) → None ≡ Some r → ⊥
nothing_there r e = absurd (cc)

-- two new replicas are paired
new_replicas : Paired (new_state (codes "a")) (new_state (codes "b"))
new_replicas = record {
  known_fits = inl refl;
  known = λ d r _ is. absurd (nothing_there r is);
  told_fits = inl refl;
  told = λ d r _ is. absurd (nothing_there r is);
  contents = λ d m n there _ _. absurd there;
}

-- a position past the end of the peer's log pairs no two states
abbrev ahead : State
ahead = record (new_state (codes "a")) { position = λ table uid. Some (place 1 (codes "T1")) }

not_paired : Paired ahead (new_state (codes "b")) → ⊥
not_paired p = by p.known_fits
  where
    by : FitsLog [] (place 1 (codes "T1")) → ⊥
    by (inl e) = absurd (omega (arith, e))
    by (inr f) = omega (arith, f.0)

-- ---- moves, and a list of them

abbrev to : ℕ → Move
to generation = record { table = table.Known; uid = codes "b"; at = place generation (codes "T") }

abbrev moved_to_2 : State
moved_to_2 = after (new_state (codes "a")) (Moved (to 2))

moves_on : move_decides (to 3) moved_to_2 ≡ Answers tt (Some (Moved (to 3)))
moves_on = refl

stands_there : move_decides (to 2) moved_to_2 ≡ Answers tt None
stands_there = refl

goes_back : move_decides (to 1) moved_to_2 ≡ Refuses (LogCheck (place 2 (codes "T")) (place 1 (codes "T")))
goes_back = refl

abbrev two_moves : List Call
two_moves = MovePosition (to 2) ∷ MovePosition (to 1) ∷ []

-- the second one is refused
one_is_made : steps_made (new_state (codes "a")) two_moves (Ok tt ∷ Err Refused ∷ []) ≡ Moved (to 2) ∷ []
one_is_made = refl

-- a disk failed in the first one
none_is_made : steps_made (new_state (codes "a")) two_moves (Err Disk ∷ []) ≡ []
none_is_made = refl

one_may_be_written : steps_written (new_state (codes "a")) two_moves (Err Disk ∷ []) ≡ Moved (to 2) ∷ []
one_may_be_written = refl
