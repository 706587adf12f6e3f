use Rattle.std.proofs.Common.{take, Ok}
use Rattle.std.specs.List.{flat_map}
use Rattle.command_lines.specs.Lines.{line_text}
use Rattle.command_lines.specs.Puts.{Puts}
use Rattle.replica_core.specs.Commands.Effects.{Index}
use Rattle.store_commands.proofs.index_list.print_indexes.Given as goal

abbrev pub invariant-loop-index : goal.invariant-loop-index
invariant-loop-index g l =
    Puts (flat_map (λ x. line_text (Index x.name x.exprs.texts)) (take l.index-index l.index-items))
    (g.K.Sink.known l.fn.out) (g.K.Sink.known l.out) (Ok tt)
