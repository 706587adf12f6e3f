-- A line that may be left out, and that of a position of a peer.
use Rattle.std.specs.Prelude.{ℕ, List, [], Option, Some, None}
use Rattle.u1_base.specs.Places.{Place}
use Rattle.vector_rev.specs.Counts.{Uid}
use Rattle.conflicts.specs.declared.moves.PosTable.{PosTable}
use Rattle.replica_state.specs.Held.{chosen}
use Rattle.replica_core.specs.Commands.Effects.{Known, Line, Told}
use Rattle.command_lines.specs.Lines.{line_text}

abbrev pub line_if : Option Line → List ℕ
line_if None = []
line_if (Some line) = line_text line

-- known of the peer's log, or told to the peer of the own one
abbrev pub kept_line : PosTable → Uid × Place → Line
kept_line table kept = chosen table (Known kept.0 kept.1) (Told kept.0 kept.1)
