-- The body of a step is read as that step, and what is read as a step is its body.
use Rattle.std.proofs.Common.{◌≡◌, ℕ, zero, suc, ◌^◌, ◌<◌, List, [], ◌∷◌, length, Option, Some, None, IfSome, refl, sym}
use Rattle.std.proofs.Common.{subst, lit<}
use Rattle.std.specs.List.{AllByRecursion}
use Rattle.u1_base.specs.Ids.{IsId}
use Rattle.u1_base.specs.Places.{Place}
use Rattle.u1_base.specs.declared.ids.Form.TheVariants.{Document, Replica, Transaction, Name}
use Rattle.content.specs.Contents.{IsContent}
use Rattle.expr_parser.specs.Reading.{AreExprs}
use Rattle.vector_rev.specs.Counts.{Uid}
use Rattle.vector_rev.specs.Clock.{Clock}
use Rattle.conflicts.specs.declared.accept.Making.{Making}
use Rattle.conflicts.specs.declared.accept.Making.TheVariants as making_of
use Rattle.conflicts.specs.declared.moves.Move.{Move}
use Rattle.conflicts.specs.declared.moves.PosTable.{PosTable}
use Rattle.conflicts.specs.declared.moves.PosTable.TheVariants as table_of
use Rattle.conflicts.specs.State.{Step, Accepted, Gone, Moved, IndexCreated, IndexDeleted}
use Rattle.record_fields.specs.Fields.{◌then◌}
use Rattle.record_fields.specs.Plain.{byte, id, flag, content, expressions}
use Rattle.record_fields.specs.Named.{clock, clocks, peer}
use Rattle.record_codec.specs.Bodies.{making_in, making_byte, making, AcceptParts, accept_of, accept_parts, accept}
use Rattle.record_codec.specs.Bodies.{move_of, table_byte, table_in, maybe_table, table, moved, MaybePeer, maybe_peer}
use Rattle.record_codec.specs.Bodies.{maybe_move_of, maybe_move_parts, maybe_moved, kind_byte, kind_in, kind, Parts}
use Rattle.record_codec.specs.Bodies.{parts, step_from, step_parts, step}
use Rattle.record_fields.specs.Named.{IsPlace}
use Rattle.record_codec.specs.Steps.{IsMove, IsAccept, IsStep}
use Rattle.record_fields.specs.declared.format.Format.{Format}
use Rattle.record_codec.specs.declared.kind.Kind.{Kind}
use Rattle.record_codec.specs.declared.kind.Kind.TheVariants as kind_of
use Rattle.record_fields.proofs.Lawful.{IsLawful, then_lawful, mapped_lawful, checked_lawful}
use Rattle.record_fields.proofs.PlainLaws.{nothing_lawful, byte_lawful, id_lawful, flag_lawful, content_lawful}
use Rattle.record_fields.proofs.PlainLaws.{expressions_lawful, some_is}
use Rattle.record_fields.proofs.NamedLaws.{clock_lawful, clocks_lawful, peer_lawful}

-- ---- acceptances

making_back : (m : Making) → (making_byte m < 256) × (making_in (making_byte m) ≡ Some m)
making_back making_of.Edit = (lit< tt, refl)
making_back making_of.Resolve = (lit< tt, refl)
making_back making_of.Merge = (lit< tt, refl)
making_back making_of.Received = (lit< tt, refl)

-- a byte that is read as a value is that of the value
byte_of : {A : Type 0} (spelled : A → ℕ) (b : ℕ) (x y : A) → spelled x ≡ b → Some x ≡ Some y → spelled y ≡ b
byte_of spelled b x y is e = subst (λ z. spelled z ≡ b) (some_is x y e) is

making_only : (b : ℕ) (m : Making) → making_in b ≡ Some m → making_byte m ≡ b
making_only zero m e = byte_of making_byte 0 making_of.Edit m refl e
making_only (suc zero) m e = byte_of making_byte 1 making_of.Resolve m refl e
making_only (suc (suc zero)) m e = byte_of making_byte 2 making_of.Merge m refl e
making_only (suc (suc (suc zero))) m e = byte_of making_byte 3 making_of.Received m refl e
making_only (suc (suc (suc (suc b)))) m e = absurd (cc e)

making_lawful : IsLawful making (λ _. Unit {0})
making_lawful = checked_lawful byte making_in making_byte (λ b. b < 256) (λ _. Unit {0}) byte_lawful
    (λ m is. making_back m) (λ b m is e. (tt, making_only b m e))

abbrev AreParts : AcceptParts → Type 0
AreParts p = Unit {0} × (Unit {0}
    × (((length p.1.1.0 < 2 ^ 32) × AllByRecursion (λ _. Unit {0}) p.1.1.0) × (Unit {0} × IfSome p.1.1.1.1 IsContent)))

any_clocks : (cs : List Clock) → AllByRecursion (λ _. Unit {0}) cs
any_clocks [] = tt
any_clocks (c ∷ cs) = (tt, any_clocks cs)

accept_lawful : (format : Format) → IsLawful (accept format) IsAccept
unfolding accept
accept_lawful format =
    mapped_lawful (clock format then λ _. making then λ _. clocks format then λ _. flag then λ _. content) accept_of
    accept_parts AreParts IsAccept
    (then_lawful (clock format) (λ _. making then λ _. clocks format then λ _. flag then λ _. content) (λ _. Unit {0})
    (λ _ p. Unit {0} × (((length p.1.0 < 2 ^ 32) × AllByRecursion (λ _. Unit {0}) p.1.0)
    × (Unit {0} × IfSome p.1.1.1 IsContent))) (clock_lawful format)
    (λ c is. then_lawful making (λ _. clocks format then λ _. flag then λ _. content) (λ _. Unit {0})
    (λ _ p. ((length p.0 < 2 ^ 32) × AllByRecursion (λ _. Unit {0}) p.0)
    × (Unit {0} × IfSome p.1.1 IsContent)) making_lawful
    (λ m is. then_lawful (clocks format) (λ _. flag then λ _. content)
    (λ cs. (length cs < 2 ^ 32) × AllByRecursion (λ _. Unit {0}) cs) (λ _ p. Unit {0} × IfSome p.1 IsContent)
    (clocks_lawful format)
    (λ cs is. then_lawful flag (λ _. content) (λ _. Unit {0}) (λ _ o. IfSome o IsContent) flag_lawful
    (λ b is. content_lawful)))))
    (λ a is. ((tt, (tt, ((is.1, any_clocks a.parents), (tt, is.0)))), refl))
    (λ p is. ((is.1.1.1.1, is.1.1.0.0), refl))

-- ---- moves

maybe_table_back : (o : Option PosTable) → (table_byte o < 256) × (table_in (table_byte o) ≡ Some o)
maybe_table_back None = (lit< tt, refl)
maybe_table_back (Some table_of.Known) = (lit< tt, refl)
maybe_table_back (Some table_of.Told) = (lit< tt, refl)

maybe_table_only : (b : ℕ) (o : Option PosTable) → table_in b ≡ Some o → table_byte o ≡ b
maybe_table_only zero o e = byte_of table_byte 0 None o refl e
maybe_table_only (suc zero) o e = byte_of table_byte 1 (Some table_of.Known) o refl e
maybe_table_only (suc (suc zero)) o e = byte_of table_byte 2 (Some table_of.Told) o refl e
maybe_table_only (suc (suc (suc b))) o e = absurd (cc e)

maybe_table_lawful : IsLawful maybe_table (λ _. Unit {0})
maybe_table_lawful =
    checked_lawful byte table_in table_byte (λ b. b < 256) (λ _. Unit {0}) byte_lawful (λ o is. maybe_table_back o)
    (λ b o is e. (tt, maybe_table_only b o e))

table_lawful : IsLawful table (λ _. Unit {0})
table_lawful =
    checked_lawful maybe_table (λ o. o) (λ t. Some t) (λ _. Unit {0}) (λ _. Unit {0}) maybe_table_lawful
    (λ t is. (tt, refl)) (λ o t is e. (tt, sym e))

abbrev IsPeer : Uid × Place → Type 0
IsPeer p = IsId Replica p.0 × IsPlace p.1

moved_lawful : (format : Format) → IsLawful (moved format) IsMove
unfolding moved
moved_lawful format =
    mapped_lawful (table then λ _. peer format) (λ p. move_of p.0 p.1) (λ m. (m.table, (m.uid, m.at)))
    (λ p. Unit {0} × IsPeer p.1) IsMove
    (then_lawful table (λ _. peer format) (λ _. Unit {0}) (λ _. IsPeer) table_lawful (λ t is. peer_lawful format))
    (λ m is. ((tt, is), refl)) (λ p is. (is.1, refl))

abbrev IsMaybePeer : (o : Option PosTable) → MaybePeer o → Type 0
IsMaybePeer None p = Unit {0}
IsMaybePeer (Some t) p = IsPeer p

maybe_peer_lawful : (format : Format) (o : Option PosTable) → IsLawful (maybe_peer format o) (IsMaybePeer o)
maybe_peer_lawful format None = nothing_lawful
maybe_peer_lawful format (Some t) = peer_lawful format

maybe_move_back : (o : Option Move) → IfSome o IsMove
    → (Unit {0} × IsMaybePeer (maybe_move_parts o).0 (maybe_move_parts o).1)
    × (maybe_move_of (maybe_move_parts o).0 (maybe_move_parts o).1 ≡ o)
maybe_move_back None is = ((tt, tt), refl)
maybe_move_back (Some m) is = ((tt, is), refl)

maybe_move_only : (o : Option PosTable) (p : MaybePeer o) → IsMaybePeer o p → IfSome (maybe_move_of o p) IsMove
    × (maybe_move_parts (maybe_move_of o p) ≡ (o, p))
maybe_move_only None p is = (tt, refl)
maybe_move_only (Some t) p is = (is, refl)

maybe_moved_lawful : (format : Format) → IsLawful (maybe_moved format) (λ o. IfSome o IsMove)
unfolding maybe_moved
maybe_moved_lawful format =
    mapped_lawful (maybe_table then maybe_peer format) (λ p. maybe_move_of p.0 p.1) maybe_move_parts
    (λ p. Unit {0} × IsMaybePeer p.0 p.1) (λ o. IfSome o IsMove)
    (then_lawful maybe_table (maybe_peer format) (λ _. Unit {0}) IsMaybePeer maybe_table_lawful
    (λ o is. maybe_peer_lawful format o)) maybe_move_back (λ p is. maybe_move_only p.0 p.1 is.1)

-- ---- steps

kind_back : (k : Kind) → (kind_byte k < 256) × (kind_in (kind_byte k) ≡ Some k)
kind_back kind_of.Accept = (lit< tt, refl)
kind_back kind_of.Gone = (lit< tt, refl)
kind_back kind_of.Position = (lit< tt, refl)
kind_back kind_of.IndexCreate = (lit< tt, refl)
kind_back kind_of.IndexDelete = (lit< tt, refl)

kind_only : (b : ℕ) (k : Kind) → kind_in b ≡ Some k → kind_byte k ≡ b
kind_only zero k e = absurd (cc e)
kind_only (suc zero) k e = byte_of kind_byte 1 kind_of.Accept k refl e
kind_only (suc (suc zero)) k e = byte_of kind_byte 2 kind_of.Gone k refl e
kind_only (suc (suc (suc zero))) k e = byte_of kind_byte 3 kind_of.Position k refl e
kind_only (suc (suc (suc (suc zero)))) k e = byte_of kind_byte 4 kind_of.IndexCreate k refl e
kind_only (suc (suc (suc (suc (suc zero))))) k e = byte_of kind_byte 5 kind_of.IndexDelete k refl e
kind_only (suc (suc (suc (suc (suc (suc b)))))) k e = absurd (cc e)

kind_lawful : IsLawful kind (λ _. Unit {0})
kind_lawful = checked_lawful byte kind_in kind_byte (λ b. b < 256) (λ _. Unit {0}) byte_lawful (λ k is. kind_back k)
    (λ b k is e. (tt, kind_only b k e))

abbrev IsParts : (k : Kind) → Parts k → Type 0
IsParts kind_of.Accept p = IsId Document p.0 × (IsAccept p.1.0 × (IsId Transaction p.1.1.0 × IfSome p.1.1.1 IsMove))
IsParts kind_of.Gone p = IsId Document p.0 × (IsId Transaction p.1.0 × IfSome p.1.1 IsMove)
IsParts kind_of.Position p = IsMove p
IsParts kind_of.IndexCreate p = IsId Name p.0 × AreExprs p.1
IsParts kind_of.IndexDelete p = IsId Name p

ended_lawful : (format : Format)
    → IsLawful (id Transaction then λ _. maybe_moved format) (λ p. IsId Transaction p.0 × IfSome p.1 IsMove)
ended_lawful format = then_lawful (id Transaction) (λ _. maybe_moved format) (IsId Transaction)
    (λ _ o. IfSome o IsMove) (id_lawful Transaction) (λ t is. maybe_moved_lawful format)

parts_lawful : (format : Format) (k : Kind) → IsLawful (parts format k) (IsParts k)
parts_lawful format kind_of.Accept =
    then_lawful (id Document) (λ _. accept format then λ _. id Transaction then λ _. maybe_moved format)
    (IsId Document) (λ _ p. IsAccept p.0 × (IsId Transaction p.1.0 × IfSome p.1.1 IsMove)) (id_lawful Document)
    (λ d is. then_lawful (accept format) (λ _. id Transaction then λ _. maybe_moved format) IsAccept
    (λ _ p. IsId Transaction p.0 × IfSome p.1 IsMove) (accept_lawful format) (λ a is. ended_lawful format))
parts_lawful format kind_of.Gone =
    then_lawful (id Document) (λ _. id Transaction then λ _. maybe_moved format) (IsId Document)
    (λ _ p. IsId Transaction p.0 × IfSome p.1 IsMove) (id_lawful Document) (λ d is. ended_lawful format)
parts_lawful format kind_of.Position = moved_lawful format
parts_lawful format kind_of.IndexCreate = then_lawful (id Name) (λ _. expressions) (IsId Name) (λ _. AreExprs)
    (id_lawful Name) (λ n is. expressions_lawful)
parts_lawful format kind_of.IndexDelete = id_lawful Name

step_back : (x : Step) → IsStep x → (Unit {0} × IsParts (step_parts x).0 (step_parts x).1)
    × (step_from (step_parts x).0 (step_parts x).1 ≡ x)
step_back (Accepted d a trans m) is = ((tt, (is.0, (is.1, (is.2, is.3)))), refl)
step_back (Gone d trans m) is = ((tt, (is.0, (is.1, is.2))), refl)
step_back (Moved m) is = ((tt, is), refl)
step_back (IndexCreated n es) is = ((tt, (is.0, is.1)), refl)
step_back (IndexDeleted n) is = ((tt, is), refl)

step_only : (k : Kind) (p : Parts k) → IsParts k p → IsStep (step_from k p) × (step_parts (step_from k p) ≡ (k, p))
step_only kind_of.Accept p is = ((is.0, is.1.0, is.1.1.0, is.1.1.1), refl)
step_only kind_of.Gone p is = ((is.0, is.1.0, is.1.1), refl)
step_only kind_of.Position p is = (is, refl)
step_only kind_of.IndexCreate p is = ((is.0, is.1), refl)
step_only kind_of.IndexDelete p is = (is, refl)

pub step_lawful : (format : Format) → IsLawful (step format) IsStep
step_lawful format =
    mapped_lawful (kind then parts format) (λ p. step_from p.0 p.1) step_parts (λ p. Unit {0} × IsParts p.0 p.1) IsStep
    (then_lawful kind (parts format) (λ _. Unit {0}) IsParts kind_lawful (λ k is. parts_lawful format k)) step_back
    (λ p is. step_only p.0 p.1 is.1)
