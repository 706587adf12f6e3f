-- A step is read by its kind, and a move that need not be there by its table.
use Rattle.std.proofs.Common.{◌≡◌, ℕ, Some, None, Ok, Err, refl, ap, ◌∙◌}
use Rattle.u1_base.specs.Places.{Place}
use Rattle.vector_rev.specs.Counts.{Uid}
use Rattle.conflicts.specs.declared.moves.Move.{Move}
use Rattle.conflicts.specs.declared.moves.PosTable.{PosTable}
use Rattle.record_fields.specs.Fields.{Rest, Read, Field, ◌>>=◌, ◌then◌}
use Rattle.record_fields.specs.Named.{peer}
use Rattle.record_fields.specs.declared.format.Format.{Format}
use Rattle.record_fields.specs.Reading.{Stops}
use Rattle.record_fields.specs.declared.stop.Stop.{Stop}
use Rattle.record_fields.specs.declared.stop.Stop.TheVariants as stop
use Rattle.record_fields.proofs.ReadBehind.{told, then_by, told_behind}
use Rattle.record_codec.specs.Bodies.{kind, parts, step_from, step, move_of, maybe_table, maybe_peer}
use Rattle.record_codec.specs.inner.Bodies.{step_at, moved_at}
use Rattle.record_codec.specs.Bodies.{maybe_move_of, maybe_moved}
use Rattle.record_codec.specs.declared.kind.Kind.{Kind}

pub step_by_kind : (format : Format) (r : Rest) (k : Kind) (behind : Rest) → kind.read r ≡ Ok (k, behind)
    → (step format).read r ≡ step_at format k behind
step_by_kind format r k behind read =
    ap (told (λ p. step_from p.0 p.1)) (then_by kind (parts format) r k behind read)
    ∙ told_behind (λ p. step_from p.0 p.1) (parts format) k behind

-- ---- moves

then_stops : {A : Type 0} {B : A → Type 0} (f : Field A) (g : (a : A) → Field (B a)) (r : Rest) (left : ℕ)
    → f.read r ≡ Err left → (f then g).read r ≡ Err left
then_stops f g r left first = ap (λ q. q >>= λ x. (g x.0).read x.1 >>= λ y. Ok ((x.0, y.0), y.1)) first

pub table_stops : (format : Format) (r : Rest) (e : Stop) → Stops (maybe_table.read r) e
    → Stops ((maybe_moved format).read r) e
unfolding maybe_moved
table_stops format r stop.Memory stops = tt
table_stops format r (stop.Bad left) stops = ap (told (λ p. maybe_move_of p.0 p.1))
    (then_stops maybe_table (maybe_peer format) r left stops)

pub moved_none : (format : Format) (r behind : Rest) → maybe_table.read r ≡ Ok (None, behind)
    → (maybe_moved format).read r ≡ Ok (None, behind)
unfolding maybe_moved
moved_none format r behind read =
    ap (told (λ p. maybe_move_of p.0 p.1)) (then_by maybe_table (maybe_peer format) r None behind read)

some_told : (t : PosTable) (q : Read (Uid × Place))
    → told (λ p. maybe_move_of (Some t) p) q ≡ told (λ m. Some m) (q >>= λ p. Ok (move_of t p.0, p.1))
some_told t (Ok p) = refl
some_told t (Err left) = refl

moved_by : (format : Format) (r behind : Rest) (t : PosTable) → maybe_table.read r ≡ Ok (Some t, behind)
    → (maybe_moved format).read r ≡ told (λ m. Some m) (moved_at format t behind)
unfolding maybe_moved
moved_by format r behind t read =
    ap (told (λ p. maybe_move_of p.0 p.1)) (then_by maybe_table (maybe_peer format) r (Some t) behind read)
    ∙ told_behind (λ p. maybe_move_of p.0 p.1) (maybe_peer format) (Some t) behind
    ∙ some_told t ((peer format).read behind)

pub moved_some : (format : Format) (r behind last : Rest) (t : PosTable) (m : Move)
    → maybe_table.read r ≡ Ok (Some t, behind) → moved_at format t behind ≡ Ok (m, last)
    → (maybe_moved format).read r ≡ Ok (Some m, last)
moved_some format r behind last t m read there = moved_by format r behind t read ∙ ap (told (λ x. Some x)) there

pub moved_stops : (format : Format) (r behind : Rest) (t : PosTable) (e : Stop)
    → maybe_table.read r ≡ Ok (Some t, behind) → Stops (moved_at format t behind) e
    → Stops ((maybe_moved format).read r) e
moved_stops format r behind t stop.Memory read stops = tt
moved_stops format r behind t (stop.Bad left) read stops = moved_by format r behind t read
    ∙ ap (told (λ x. Some x)) stops
