-- What each call that writes decides, by the state and its operands. What a refusal is called is an operand too: the
-- calls of a replica and a session have faults of their own for one and the same decision.
use Rattle.std.specs.Prelude.{◌≡◌, ℕ, ◌+◌, Bool, List, length, Option, Some, None, Result, Ok, Err, if◌then◌else◌}
use Rattle.std.specs.Cmp.Lexicographic.{pointwise}
use Rattle.std.specs.Str.{bytes_eq}
use Rattle.u1_base.specs.NewId.{new_id_text}
use Rattle.u1_base.specs.Places.{Place, same_place}
use Rattle.u1_base.specs.declared.made.IdKind.TheVariants.{Trans}
use Rattle.content.specs.Tree.{Tree}
use Rattle.vector_rev.specs.Clock.{Clock}
use Rattle.translog.specs.Source.{passes}
use Rattle.conflicts.specs.Decision.{decides}
use Rattle.conflicts.specs.Making.{deleted, edited, resolved}
use Rattle.conflicts.specs.State.{Accepted, IndexCreated, IndexDeleted, Moved, State, Step, Text, position_kept}
use Rattle.conflicts.specs.declared.accept.Accept.{Accept}
use Rattle.conflicts.specs.declared.edits.EditFault.{EditFault}
use Rattle.conflicts.specs.declared.member.Member.{Member}
use Rattle.conflicts.specs.declared.moves.Move.{Move}
use Rattle.conflicts.specs.declared.receipts.Taken.{Taken}
use Rattle.conflicts.specs.declared.resolutions.ResolveFault.{ResolveFault}

-- a refusal, or an answer with the step that it makes, if there is something to do
pub data Decided (A F : Type 0) : Type 0 where
  Refuses : F → Decided A F
  Answers : A → Option Step → Decided A F

abbrev pub step_in : {A F : Type 0} → Decided A F → Option Step
step_in (Refuses fault) = None
step_in (Answers answer step) = step

abbrev pub IsAnswer : {A F : Type 0} → Decided A F → A → Type 0
IsAnswer (Refuses fault) given = ⊥
IsAnswer (Answers answer step) given = given ≡ answer

abbrev pub IsRefusal : {A F : Type 0} → Decided A F → F → Type 0
IsRefusal (Refuses fault) given = given ≡ fault
IsRefusal (Answers answer step) given = ⊥

-- ---- an acceptance

-- the transaction id of the log's next entry, under the seed
abbrev pub next_trans : ℕ → State → Text
next_trans seed s = new_id_text seed Trans (length s.log + 1)

-- the acceptance as the log's next entry
abbrev pub accept_next : ℕ → State → Text → Accept → Option Move → Step
accept_next seed s doc a moved = Accepted doc a (next_trans seed s) moved

-- ---- edit, deletion, resolution

-- what is made of a document is accepted, and its revision is the answer
abbrev pub accept_made : {E F : Type 0} → (E → F) → ℕ → State → Text → Result Accept E → Decided Clock F
accept_made refusal seed s doc (Ok a) = Answers a.rev (Some (accept_next seed s doc a None))
accept_made refusal seed s doc (Err fault) = Refuses (refusal fault)

abbrev pub put_decides : {F : Type 0} → (EditFault → F) → ℕ → Text → Option Clock → Tree → State → Decided Clock F
put_decides refusal seed doc rev content s = accept_made refusal seed s doc (edited (s.document doc) rev content s.uid)

abbrev pub delete_decides : {F : Type 0} → (EditFault → F) → ℕ → Text → Clock → State → Decided Clock F
delete_decides refusal seed doc rev s = accept_made refusal seed s doc (deleted (s.document doc) rev s.uid)

abbrev pub resolve_decides : {F : Type 0} → (ResolveFault → F) → ℕ → Text → List Clock → Option Tree → State
    → Decided Clock F
resolve_decides refusal seed doc named content s = accept_made refusal seed s doc
    (resolved (s.document doc) named content s.uid)

-- ---- positions

-- the place that is kept of the peer
abbrev pub kept_place : State → Move → Place
kept_place s m = position_kept s m.table m.uid

-- a move that goes back is refused, with the place that is kept and the one that was given
abbrev pub if_goes_on : {A F : Type 0} → (Place → Place → F) → State → Move → Decided A F → Decided A F
if_goes_on refusal s m decided =
    if passes (kept_place s m) m.at then decided else Refuses (refusal (kept_place s m) m.at)

-- a move to the place that is kept is no step. So the place before the first entry is never kept by a move alone
abbrev pub move_step : State → Move → Option Step
move_step s m = if same_place m.at (kept_place s m) then None else Some (Moved m)

abbrev pub move_decides : {F : Type 0} → (Place → Place → F) → Move → State → Decided (Unit {0}) F
move_decides refusal m s = if_goes_on refusal s m (Answers tt (move_step s m))

-- ---- receipts

-- the acceptance and the move are one step; where nothing is accepted, the move is one
abbrev pub take_step : ℕ → Text → Move → State → Option Accept → Option Step
take_step seed doc m s None = move_step s m
take_step seed doc m s (Some a) = Some (accept_next seed s doc a (Some m))

abbrev pub take_answers : {F : Type 0} → ℕ → Text → Move → State → Taken → Decided Taken F
take_answers seed doc m s taken = Answers taken (take_step seed doc m s taken.accepted)

-- `save` is set where this replica asked for the revision
abbrev pub take_decides : {F : Type 0} → (Place → Place → F) → ℕ → Text → Member → Bool → Move → State
    → Decided Taken F
take_decides refusal seed doc x save m s =
    if_goes_on refusal s m (take_answers seed doc m s (decides (s.document doc) x save s.uid))

-- ---- indexes

-- whether two lists of canonical texts are one
abbrev pub same_exprs : List Text → List Text → Bool
same_exprs kept exprs = pointwise bytes_eq kept exprs

-- an index of the name with these expressions is accepted as it is
abbrev pub create_over : {F : Type 0} → F → Text → List Text → Option (List Text) → Decided (Unit {0}) F
create_over taken name exprs None = Answers tt (Some (IndexCreated name exprs))
create_over taken name exprs (Some kept) = if same_exprs kept exprs then Answers tt None else Refuses taken

abbrev pub create_decides : {F : Type 0} → F → Text → List Text → State → Decided (Unit {0}) F
create_decides taken name exprs s = create_over taken name exprs (s.index name)

abbrev pub delete_over : {F : Type 0} → F → Text → Option (List Text) → Decided (Unit {0}) F
delete_over unknown name None = Refuses unknown
delete_over unknown name (Some kept) = Answers tt (Some (IndexDeleted name))

abbrev pub delete_index_decides : {F : Type 0} → F → Text → State → Decided (Unit {0}) F
delete_index_decides unknown name s = delete_over unknown name (s.index name)
