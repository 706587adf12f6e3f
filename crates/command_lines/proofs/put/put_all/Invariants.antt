use Rattle.std.proofs.Common.{take, Ok}
use Rattle.std.specs.List.{flat_map}
use Rattle.command_lines.specs.Puts.{Puts}
use Rattle.command_lines.proofs.put.put_all.Given as goal

abbrev pub invariant-loop-piece : goal.invariant-loop-piece
invariant-loop-piece g l = Puts (flat_map (λ piece. piece.now) (take l.piece-index l.pieces)) (g.K.Sink.known l.fn.out)
    (g.K.Sink.known l.out) (Ok tt)
