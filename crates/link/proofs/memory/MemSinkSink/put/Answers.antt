-- A put that is told to fails took a front of the piece.
use Rattle.std.proofs.Common.{◌≡◌, ap}
use Rattle.link.specs.Memory.{Stream}
use Rattle.link.proofs.Puts.{half-front}
use Rattle.link.proofs.memory.MemSinkSink.put.Goals as goal

pub returns-then-begin-clause-err : goal.returns-then-begin-clause-err
returns-then-begin-clause-err c =
    let was : c.self.inside.bytes ≡ c.args.self.now.bytes = ap (λ (s : Stream). s.bytes) c.self.view_is in
    half-front _ _ _ (rw was at c.take_half.ensures)
