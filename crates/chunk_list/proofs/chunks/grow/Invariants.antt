use Rattle.std.proofs.Common.{◌≡◌, ◌+◌, ◌-◌, ◌≤◌}
use Rattle.std.specs.Vec.{vec_len}
use Rattle.chunk_list.specs.Chunks.{joined, AreLaidOut, CanTurn}
use Rattle.chunk_list.proofs.chunks.grow.Given as goal

abbrev pub invariant-loop-chunks : goal.invariant-loop-chunks
invariant-loop-chunks g l = record {
  same : joined l.chunks.items ≡ joined l.fn.chunks.items;
  laid_out : AreLaidOut l.chunks.items l.starts.inside.items l.starts.bases.items;
  turns : CanTurn l.chunks l.spare l.starts.inside l.starts.bases;
  long : vec_len l.fn.chunks + vec_len l.fn.spare ≤ vec_len l.chunks + vec_len l.spare;
}

abbrev pub decreases-loop-chunks : goal.decreases-loop-chunks
decreases-loop-chunks g l = l.wanted - (vec_len l.chunks + vec_len l.spare)
