use Rattle.std.proofs.Common.{take, Ok}
use Rattle.std.specs.List.{flat_map}
use Rattle.conflicts.specs.Kept.{current_first}
use Rattle.command_lines.specs.Lines.{line_text}
use Rattle.command_lines.specs.Puts.{Puts}
use Rattle.replica_core.specs.Commands.Effects.{Conflict}
use Rattle.store_commands.proofs.conflicting.print_members.Given as goal

abbrev pub invariant-loop-place : goal.invariant-loop-place
invariant-loop-place g l =
    Puts (flat_map (λ m. line_text (Conflict m)) (take l.place (current_first l.set))) (g.K.Sink.known l.fn.out)
    (g.K.Sink.known l.out) (Ok tt)
