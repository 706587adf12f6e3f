use Rattle.std.specs.Prelude.{ℕ, zero, suc, ◌-◌, ◌==◌, Bool, List, [], length, if◌then◌else◌, Option, Some, None}
use Rattle.std.specs.Prelude.{Result, Ok, Err}
use Rattle.u1_base.specs.Places.{Place}
use Rattle.u1_base.specs.declared.ids.Form.TheVariants.{Document, Transaction, Name}
use Rattle.content.specs.Tree.{Tree}
use Rattle.vector_rev.specs.Counts.{Uid}
use Rattle.vector_rev.specs.Clock.{Clock}
use Rattle.conflicts.specs.declared.accept.Accept.{Accept}
use Rattle.conflicts.specs.declared.accept.Making.{Making}
use Rattle.conflicts.specs.declared.accept.Making.TheVariants as making_of
use Rattle.conflicts.specs.declared.moves.Move.{Move}
use Rattle.conflicts.specs.declared.moves.PosTable.{PosTable}
use Rattle.conflicts.specs.declared.moves.PosTable.TheVariants as table_of
use Rattle.conflicts.specs.State.{Step, Accepted, Gone, Moved, IndexCreated, IndexDeleted}
use Rattle.record_fields.specs.Table.{Text, Table, table_with, after}
use Rattle.record_fields.specs.Fields.{Rest, Field, whole, ◌>>=◌, ◌then◌, mapped, checked}
use Rattle.record_fields.specs.Plain.{nothing, byte, id, flag, content, expressions}
use Rattle.record_fields.specs.Named.{clock, clocks, peer}
use Rattle.record_fields.specs.declared.format.Format.{Format}
use Rattle.record_fields.specs.declared.format.Format.TheVariants.{First, Second}
use Rattle.record_codec.specs.declared.kind.Kind.{Kind}
use Rattle.record_codec.specs.declared.kind.Kind.TheVariants as kind_of

-- ---- what is accepted

abbrev pub making_in : ℕ → Option Making
making_in zero = Some making_of.Edit
making_in (suc zero) = Some making_of.Resolve
making_in (suc (suc zero)) = Some making_of.Merge
making_in (suc (suc (suc zero))) = Some making_of.Received
making_in (suc (suc (suc (suc b)))) = None

abbrev pub making_byte : Making → ℕ
making_byte making_of.Edit = 0
making_byte making_of.Resolve = 1
making_byte making_of.Merge = 2
making_byte making_of.Received = 3

-- one byte, 0 to 3
abbrev pub making : Field Making
making = checked byte making_in making_byte

-- the clock, the making, the parents, whether the revision becomes current, and the content
abbrev pub AcceptParts : Type 0
AcceptParts = Clock × (Making × (List Clock × (Bool × Option Tree)))

abbrev pub accept_of : AcceptParts → Accept
accept_of p = record { rev = p.0; content = p.1.1.1.1; making = p.1.0; parents = p.1.1.0; current = p.1.1.1.0 }

abbrev pub accept_parts : Accept → AcceptParts
accept_parts a = (a.rev, (a.making, (a.parents, (a.current, a.content))))

unfoldable pub accept : Format → Field Accept
accept format =
    mapped (clock format then λ _. making then λ _. clocks format then λ _. flag then λ _. content)
    accept_of accept_parts

-- ---- moves

abbrev pub move_of : PosTable → Uid × Place → Move
move_of table p = record { table = table; uid = p.0; at = p.1 }

abbrev pub table_byte : Option PosTable → ℕ
table_byte None = 0
table_byte (Some table_of.Known) = 1
table_byte (Some table_of.Told) = 2

abbrev pub table_in : ℕ → Option (Option PosTable)
table_in zero = Some None
table_in (suc zero) = Some (Some table_of.Known)
table_in (suc (suc zero)) = Some (Some table_of.Told)
table_in (suc (suc (suc b))) = None

-- one byte, 0 where nothing moves, else 1 or 2
abbrev pub maybe_table : Field (Option PosTable)
maybe_table = checked byte table_in table_byte

-- one byte, 1 or 2
abbrev pub table : Field PosTable
table = checked maybe_table (λ o. o) (λ t. Some t)

-- a move
unfoldable pub moved : Format → Field Move
moved format = mapped (table then λ _. peer format) (λ p. move_of p.0 p.1) (λ m. (m.table, (m.uid, m.at)))

abbrev pub MaybePeer : Option PosTable → Type 0
MaybePeer None = Unit {0}
MaybePeer (Some t) = Uid × Place

abbrev pub maybe_peer : Format → (o : Option PosTable) → Field (MaybePeer o)
maybe_peer format None = nothing
maybe_peer format (Some t) = peer format

abbrev pub maybe_move_of : (o : Option PosTable) → MaybePeer o → Option Move
maybe_move_of None p = None
maybe_move_of (Some t) p = Some (move_of t p)

abbrev pub maybe_move_parts : Option Move → (o : Option PosTable) × MaybePeer o
maybe_move_parts None = (None, tt)
maybe_move_parts (Some m) = (Some m.table, (m.uid, m.at))

-- a move or none
unfoldable pub maybe_moved : Format → Field (Option Move)
maybe_moved format = mapped (maybe_table then maybe_peer format) (λ p. maybe_move_of p.0 p.1) maybe_move_parts

-- ---- the kinds of steps

abbrev pub kind_byte : Kind → ℕ
kind_byte kind_of.Accept = 1
kind_byte kind_of.Gone = 2
kind_byte kind_of.Position = 3
kind_byte kind_of.IndexCreate = 4
kind_byte kind_of.IndexDelete = 5

abbrev pub kind_in : ℕ → Option Kind
kind_in zero = None
kind_in (suc zero) = Some kind_of.Accept
kind_in (suc (suc zero)) = Some kind_of.Gone
kind_in (suc (suc (suc zero))) = Some kind_of.Position
kind_in (suc (suc (suc (suc zero)))) = Some kind_of.IndexCreate
kind_in (suc (suc (suc (suc (suc zero))))) = Some kind_of.IndexDelete
kind_in (suc (suc (suc (suc (suc (suc b)))))) = None

-- one byte, 1 to 5
abbrev pub kind : Field Kind
kind = checked byte kind_in kind_byte

abbrev pub Parts : Kind → Type 0
Parts kind_of.Accept = Text × (Accept × (Text × Option Move))
Parts kind_of.Gone = Text × (Text × Option Move)
Parts kind_of.Position = Move
Parts kind_of.IndexCreate = Text × List Text
Parts kind_of.IndexDelete = Text

-- the fields after the kind, in order
abbrev pub parts : Format → (k : Kind) → Field (Parts k)
parts format kind_of.Accept = id Document then λ _. accept format then λ _. id Transaction then λ _. maybe_moved format
parts format kind_of.Gone = id Document then λ _. id Transaction then λ _. maybe_moved format
parts format kind_of.Position = moved format
parts format kind_of.IndexCreate = id Name then λ _. expressions
parts format kind_of.IndexDelete = id Name

abbrev pub step_from : (k : Kind) → Parts k → Step
step_from kind_of.Accept p = Accepted p.0 p.1.0 p.1.1.0 p.1.1.1
step_from kind_of.Gone p = Gone p.0 p.1.0 p.1.1
step_from kind_of.Position p = Moved p
step_from kind_of.IndexCreate p = IndexCreated p.0 p.1
step_from kind_of.IndexDelete p = IndexDeleted p

abbrev pub step_parts : Step → (k : Kind) × Parts k
step_parts (Accepted d a trans m) = (kind_of.Accept, (d, (a, (trans, m))))
step_parts (Gone d trans m) = (kind_of.Gone, (d, (trans, m)))
step_parts (Moved m) = (kind_of.Position, m)
step_parts (IndexCreated n es) = (kind_of.IndexCreate, (n, es))
step_parts (IndexDeleted n) = (kind_of.IndexDelete, n)

-- a step: its kind, and the fields of that kind
abbrev pub step : Format → Field Step
step format = mapped (kind then parts format) (λ p. step_from p.0 p.1) step_parts

-- ---- bodies

-- the body of a step in format 2, where these uids have numbers
unfoldable pub body_of : List Text → Step → List ℕ
body_of us x = (step Second).spelled (table_with us) x

abbrev pub after_step : List Text → Step → Table
after_step us x = after (table_with us) ((step Second).named x)

-- the uids that get numbers by it, in the order of their numbers
unfoldable pub added_of : List Text → Step → List Text
added_of us x = (after_step us x).added

-- a step that was read, and the uids to which its body gives numbers
pub record Recorded : Type 0 where
  pub step : Step
  pub added : List Text

-- nothing stands after the last field
abbrev pub at_end : Step × Rest → Result Recorded ℕ
at_end x = if length x.1.bytes == 0 then Ok (record { step = x.0; added = x.1.table.added }) else Err (length x.1.bytes)

-- the place where so many bytes are left
abbrev pub placed : {A : Type 0} → List ℕ → Result A ℕ → Result A ℕ
placed body (Ok x) = Ok x
placed body (Err left) = Err (length body - left)

-- what a body says, where these uids have numbers; or the place of its first field that has no reading
unfoldable pub recorded_in : Format → List Text → List ℕ → Result Recorded ℕ
recorded_in format us body = placed body ((step format).read (whole us body) >>= at_end)

abbrev pub step_in : List Text → List ℕ → Result Recorded ℕ
step_in us body = recorded_in Second us body

-- ---- format 1, in which each uid stands as its text

unfoldable pub first_body_of : Step → List ℕ
first_body_of x = (step First).spelled (table_with []) x

abbrev pub step_alone : Result Recorded ℕ → Result Step ℕ
step_alone (Ok r) = Ok r.step
step_alone (Err place) = Err place

unfoldable pub first_step_in : List ℕ → Result Step ℕ
first_step_in body = step_alone (recorded_in First [] body)
