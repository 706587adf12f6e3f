-- How long a body is.
use Rattle.std.proofs.Common.{◌≡◌, ℕ, suc, ◌+◌, Bool, true, false, List, length, Option, Some, None, arith}
use Rattle.std.specs.Int.{w16, w32, w64}
use Rattle.u1_base.specs.Places.{Place}
use Rattle.u1_base.specs.declared.ids.Form.TheVariants.{Document, Transaction, Name}
use Rattle.content.specs.Tree.{Tree}
use Rattle.content.specs.Canonical.{canonical}
use Rattle.vector_rev.specs.Counts.{Uid}
use Rattle.vector_rev.specs.Clock.{Clock}
use Rattle.conflicts.specs.State.{Step, Accepted, Gone, Moved, IndexCreated, IndexDeleted}
use Rattle.conflicts.specs.declared.accept.Accept.{Accept}
use Rattle.conflicts.specs.declared.accept.Making.{Making}
use Rattle.conflicts.specs.declared.moves.Move.{Move}
use Rattle.conflicts.specs.declared.moves.PosTable.{PosTable}
use Rattle.record_fields.specs.Table.{Text, table_with}
use Rattle.record_fields.specs.Fields.{Field, ◌then◌}
use Rattle.record_fields.specs.Plain.{byte, number, id, flag_in, flag_byte, flag, Held, held, content_of, held_of}
use Rattle.record_fields.specs.Plain.{content, canonical_in, expression_in, expression, count_in, count, expressions}
use Rattle.record_fields.specs.Plain.{generation_in, generation, trans_in, trans_text, trans_at}
use Rattle.record_fields.specs.Named.{reference, entry, entries, clock, clocks, place, peer}
use Rattle.vector_rev.specs.Clock.{clock_of}
use Rattle.record_fields.specs.declared.format.Format.TheVariants.{Second}
use Rattle.record_codec.specs.Bodies.{making_in, making_byte, making, accept_of, accept_parts, accept, move_of}
use Rattle.record_codec.specs.Bodies.{table_byte, table_in, maybe_table, table, moved, MaybePeer, maybe_peer}
use Rattle.record_codec.specs.Bodies.{maybe_move_of, maybe_move_parts, maybe_moved, step, body_of}
use Rattle.compaction.proofs.FieldSizes.{Agree, Sized, total, then_sized, pair_sized, mapped_sized, checked_sized}
use Rattle.compaction.proofs.FieldSizes.{counted_sized, nothing_sized, byte_sized, number_sized, wide16, wide32, wide64}
use Rattle.compaction.proofs.FieldSizes.{text_of_sized, id_sized, reference_sized}
use Rattle.compaction.proofs.Texts.{uid_texts}

-- ---- sizes

abbrev pub text_size : Text → ℕ
text_size s = 2 + length s

-- an entry has a number of four bytes and a counter of eight
abbrev pub clock_size : Clock → ℕ
clock_size c = 1 + total (λ _. 4 + 8) c.entries

abbrev held_size : (b : Bool) → Held b → ℕ
held_size false t = 0
held_size true t = 4 + length (canonical t)

abbrev pub content_size : Option Tree → ℕ
content_size c = 1 + held_size (held_of c).0 (held_of c).1

abbrev pub accept_size : Accept → ℕ
accept_size a = clock_size a.rev + (1 + ((4 + total clock_size a.parents) + (1 + content_size a.content)))

abbrev place_size : Place → ℕ
place_size p = 8 + text_size (trans_text p.trans)

abbrev peer_size : Uid × Place → ℕ
peer_size p = 4 + place_size p.1

abbrev maybe_peer_size : (o : Option PosTable) → MaybePeer o → ℕ
maybe_peer_size None p = 0
maybe_peer_size (Some t) p = peer_size p

abbrev pub move_size : Option Move → ℕ
move_size o = 1 + maybe_peer_size (maybe_move_parts o).0 (maybe_move_parts o).1

-- of a body in which no uid stands as its text
abbrev pub step_size : Step → ℕ
step_size (Accepted d a trans m) = 1 + (text_size d + (accept_size a + (text_size trans + move_size m)))
step_size (Gone d trans m) = 1 + (text_size d + (text_size trans + move_size m))
step_size (Moved m) = 1 + (1 + peer_size (m.uid, m.at))
step_size (IndexCreated n es) = 1 + (text_size n + (1 + total text_size es))
step_size (IndexDeleted n) = 1 + text_size n

-- ---- they are the sizes

flag_sized : Sized flag (λ _. 1)
flag_sized = checked_sized byte flag_in flag_byte (λ _. 1) byte_sized

clock_sized : Sized (clock Second) clock_size
clock_sized =
    checked_sized entries clock_of (λ (c : Clock). c.entries) (λ es. 1 + total (λ _. 4 + 8) es)
    (counted_sized byte entry (λ _. 1) (λ _. 4 + 8) byte_sized
    (pair_sized reference (number w64) (λ _. 4) (λ _. 8) reference_sized (number_sized w64 8 wide64)))

clocks_sized : Sized (clocks Second) (λ cs. 4 + total clock_size cs)
clocks_sized = counted_sized (number w32) (clock Second) (λ _. 4) clock_size (number_sized w32 4 wide32) clock_sized

held_sized : (b : Bool) → Sized (held b) (held_size b)
held_sized false = nothing_sized
held_sized true = text_of_sized w32 4 wide32 canonical_in canonical

content_sized : Sized content content_size
content_sized =
    mapped_sized (flag then held) (λ p. content_of p.0 p.1) held_of (λ p. 1 + held_size p.0 p.1)
    (then_sized flag held (λ _. 1) held_size flag_sized held_sized)

making_sized : Sized making (λ _. 1)
making_sized = checked_sized byte making_in making_byte (λ _. 1) byte_sized

-- the fields of an acceptance behind its clock, behind its making, and behind its parents
abbrev behind_parents : Field (Bool × Option Tree)
behind_parents = flag then λ _. content

abbrev behind_making : Field (List Clock × (Bool × Option Tree))
behind_making = clocks Second then λ _. behind_parents

abbrev behind_clock : Field (Making × (List Clock × (Bool × Option Tree)))
behind_clock = making then λ _. behind_making

abbrev parents_size : List Clock → ℕ
parents_size cs = 4 + total clock_size cs

accept_sized : Sized (accept Second) accept_size
unfolding accept
accept_sized =
    mapped_sized (clock Second then λ _. behind_clock) accept_of accept_parts
    (λ p. clock_size p.0 + (1 + (parents_size p.1.1.0 + (1 + content_size p.1.1.1.1))))
    (pair_sized (clock Second) behind_clock clock_size
    (λ p. 1 + (parents_size p.1.0 + (1 + content_size p.1.1.1))) clock_sized
    (pair_sized making behind_making (λ _. 1) (λ p. parents_size p.0 + (1 + content_size p.1.1)) making_sized
    (pair_sized (clocks Second) behind_parents parents_size (λ p. 1 + content_size p.1) clocks_sized
    (pair_sized flag content (λ _. 1) content_size flag_sized content_sized))))

place_sized : Sized place place_size
place_sized =
    mapped_sized (generation then trans_at) (λ p. record { generation = p.0; trans = p.1 })
    (λ p. (p.generation, p.trans)) (λ p. 8 + text_size (trans_text p.1))
    (then_sized generation trans_at (λ _. 8) (λ _ o. text_size (trans_text o))
    (checked_sized (number w64) generation_in (λ n. n) (λ _. 8) (number_sized w64 8 wide64))
    (λ g. text_of_sized w16 2 wide16 (trans_in g) trans_text))

peer_sized : Sized (peer Second) peer_size
peer_sized = pair_sized reference place (λ _. 4) place_size reference_sized place_sized

maybe_table_sized : Sized maybe_table (λ _. 1)
maybe_table_sized = checked_sized byte table_in table_byte (λ _. 1) byte_sized

maybe_peer_sized : (o : Option PosTable) → Sized (maybe_peer Second o) (maybe_peer_size o)
maybe_peer_sized None = nothing_sized
maybe_peer_sized (Some t) = peer_sized

maybe_moved_sized : Sized (maybe_moved Second) move_size
unfolding maybe_moved
maybe_moved_sized =
    mapped_sized (maybe_table then maybe_peer Second) (λ p. maybe_move_of p.0 p.1) maybe_move_parts
    (λ p. 1 + maybe_peer_size p.0 p.1)
    (then_sized maybe_table (maybe_peer Second) (λ _. 1) maybe_peer_size maybe_table_sized maybe_peer_sized)

moved_sized : Sized (moved Second) (λ m. 1 + peer_size (m.uid, m.at))
unfolding moved
moved_sized =
    mapped_sized (table then λ _. peer Second) (λ p. move_of p.0 p.1) (λ m. (m.table, (m.uid, m.at)))
    (λ p. 1 + peer_size p.1)
    (pair_sized table (peer Second) (λ _. 1) peer_size
    (checked_sized maybe_table (λ o. o) (λ t. Some t) (λ _. 1) maybe_table_sized) peer_sized)

expressions_sized : Sized expressions (λ es. 1 + total text_size es)
expressions_sized =
    counted_sized count expression (λ _. 1) text_size (checked_sized byte count_in (λ n. n) (λ _. 1) byte_sized)
    (text_of_sized w16 2 wide16 expression_in (λ s. s))

-- behind the byte of the kind
one_byte : (n s w : ℕ) → n ≡ s + w → suc n ≡ (1 + s) + w
one_byte n s w e = omega arith

-- the fields behind the document id
abbrev behind_doc : Field (Text × Option Move)
behind_doc = id Transaction then λ _. maybe_moved Second

behind_doc_sized : Sized behind_doc (λ p. text_size p.0 + move_size p.1)
behind_doc_sized = pair_sized (id Transaction) (maybe_moved Second) text_size move_size
    (id_sized Transaction) maybe_moved_sized

gone_sized : Sized (id Document then λ _. behind_doc) (λ p. text_size p.0 + (text_size p.1.0 + move_size p.1.1))
gone_sized =
    pair_sized (id Document) behind_doc text_size (λ p. text_size p.0 + move_size p.1)
    (id_sized Document) behind_doc_sized

accepted_sized : Sized (id Document then λ _. accept Second then λ _. behind_doc)
    (λ p. text_size p.0 + (accept_size p.1.0 + (text_size p.1.1.0 + move_size p.1.1.1)))
accepted_sized =
    pair_sized (id Document) (accept Second then λ _. behind_doc) text_size
    (λ p. accept_size p.0 + (text_size p.1.0 + move_size p.1.1)) (id_sized Document)
    (pair_sized (accept Second) behind_doc accept_size
    (λ p. text_size p.0 + move_size p.1) accept_sized behind_doc_sized)

created_sized : Sized (id Name then λ _. expressions) (λ p. text_size p.0 + (1 + total text_size p.1))
created_sized = pair_sized (id Name) expressions text_size (λ es. 1 + total text_size es)
    (id_sized Name) expressions_sized

step_sized : Sized (step Second) step_size
step_sized t seen (Accepted d a trans m) agree = one_byte _ _ _ (accepted_sized t seen (d, (a, (trans, m))) agree)
step_sized t seen (Gone d trans m) agree = one_byte _ _ _ (gone_sized t seen (d, (trans, m)) agree)
step_sized t seen (Moved m) agree = one_byte _ _ _ (moved_sized t seen m agree)
step_sized t seen (IndexCreated n es) agree = one_byte _ _ _ (created_sized t seen (n, es) agree)
step_sized t seen (IndexDeleted n) agree = one_byte _ _ _ (id_sized Name t seen n agree)

-- the uids that a step names, in order
abbrev pub names_in : Step → List Uid
names_in x = (step Second).named x

pub length-body_of : (us : List Text) (seen : List Uid) (x : Step) → Agree (table_with us) seen
    → length (body_of us x) ≡ step_size x + uid_texts seen (names_in x)
unfolding body_of
length-body_of us seen x a = step_sized (table_with us) seen x a
