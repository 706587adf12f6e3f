use Rattle.std.proofs.Common.{◌≡◌, ◌+◌, ◌*◌, ◌<◌, ◌≤◌, length}
use Rattle.std.specs.Vec.{vec_items, vec_capacity}
use Rattle.chunk_list.specs.Chunks.{block, start_at}
use Rattle.chunk_list.proofs.Counting.{AreCounted}
use Rattle.chunk_list.proofs.starts.recount.Given as goal

abbrev pub invariant-loop-k : goal.invariant-loop-k
invariant-loop-k g l = record {
  counted : AreCounted l.chunks.items l.starts.inside.items l.starts.bases.items l.k l.base;
  place : l.place ≡ start_at vec_items l.chunks.items l.k;
  enough : l.k ≤ length l.starts.bases.items * block;
  no_more : length l.starts.bases.items * block < l.k + block;
  capacity : vec_capacity l.starts.inside ≡ vec_capacity l.fn.starts.inside;
  blocks_capacity : vec_capacity l.starts.bases ≡ vec_capacity l.fn.starts.bases;
}
