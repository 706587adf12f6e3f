-- Beside specs/Bodies: words of private contracts and of proofs.
use Rattle.std.specs.Prelude.{◌-◌}
use Rattle.std.specs.Prelude.{Ok}
use Rattle.conflicts.specs.declared.accept.Making.TheVariants as making_of
use Rattle.conflicts.specs.declared.moves.Move.{Move}
use Rattle.conflicts.specs.declared.moves.PosTable.{PosTable}
use Rattle.conflicts.specs.declared.moves.PosTable.TheVariants as table_of
use Rattle.conflicts.specs.State.{Step}
use Rattle.record_fields.specs.Fields.{Rest, Read, ◌>>=◌}
use Rattle.record_fields.specs.Named.{peer}
use Rattle.record_fields.specs.declared.format.Format.{Format}
use Rattle.record_codec.specs.declared.kind.Kind.{Kind}
use Rattle.record_codec.specs.declared.kind.Kind.TheVariants as kind_of
use Rattle.record_codec.specs.Bodies.{move_of, table, kind, parts, step_from, step}

-- the move in the table that was read
abbrev pub moved_at : Format → PosTable → Rest → Read Move
moved_at format t r = (peer format).read r >>= λ p. Ok (move_of t p.0, p.1)

-- the step whose kind was read
abbrev pub step_at : Format → Kind → Rest → Read Step
step_at format k r = (parts format k).read r >>= λ p. Ok (step_from k p.0, p.1)
