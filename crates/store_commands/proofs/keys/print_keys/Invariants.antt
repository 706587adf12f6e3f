use Rattle.std.proofs.Common.{take, Ok}
use Rattle.std.specs.List.{flat_map}
use Rattle.command_lines.specs.Lines.{line_text}
use Rattle.command_lines.specs.Puts.{Puts}
use Rattle.replica_core.specs.Commands.Effects.{Keyed}
use Rattle.store_commands.proofs.keys.print_keys.Given as goal

abbrev pub invariant-loop-key : goal.invariant-loop-key
invariant-loop-key g l =
    Puts (flat_map (λ item. line_text (Keyed item)) (take l.key-index l.keys)) (g.K.Sink.known l.fn.out)
    (g.K.Sink.known l.out) (Ok tt)
