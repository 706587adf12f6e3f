-- The rest of the chunk that the place falls into.
use Rattle.std.proofs.Common.{arith}
use Rattle.chunk_list.proofs.Walking.{run_is}
use Rattle.chunk_list.proofs.list.ChunkList.run.Goals as goal

pub returns : goal.returns
returns g c =
    rw (← c.self.view_is)
    (run_is c.self.inside.chunks.items c.locate-at.result.0 c.args.place c.locate-at.result.1 c.locate-at.ensures
    c.index-chunk.result.now c.index-chunk.ensures
    (omega (arith, c.self.invariant.counted, c.if-place-self.false)) c.deref.result.now c.deref.ensures.value)
