use Rattle.std.proofs.Common.{take, Ok}
use Rattle.std.specs.List.{flat_map}
use Rattle.command_lines.specs.Puts.{Puts}
use Rattle.replica_core.specs.Commands.Documents.{document_line}
use Rattle.replica_state.specs.Held.{meaning}
use Rattle.store_commands.specs.inner.Shown.{line_if}
use Rattle.store_commands.proofs.listing.print_documents.Given as goal

abbrev pub invariant-loop-id : goal.invariant-loop-id
invariant-loop-id g l =
    Puts (flat_map (λ id. line_if (document_line (meaning l.state) l.deleted id)) (take l.id-index l.ids))
    (g.K.Sink.known l.fn.out) (g.K.Sink.known l.out) (Ok tt)
