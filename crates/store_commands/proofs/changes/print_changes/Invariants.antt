use Rattle.std.proofs.Common.{take, Ok}
use Rattle.std.specs.List.{flat_map}
use Rattle.command_lines.specs.Lines.{line_text}
use Rattle.command_lines.specs.Puts.{Puts}
use Rattle.replica_core.specs.Commands.Effects.{Changed}
use Rattle.store_commands.proofs.changes.print_changes.Given as goal

abbrev pub invariant-loop-change : goal.invariant-loop-change
invariant-loop-change g l =
    Puts (flat_map (λ item. line_text (Changed item)) (take l.change-index l.changes)) (g.K.Sink.known l.fn.out)
    (g.K.Sink.known l.out) (Ok tt)
