-- On the way there are places for as many items as move.
use Rattle.std.proofs.Common.{◌≡◌, ◌+◌, ◌-◌, ◌<◌, ◌≤◌, length, get_or}
use Rattle.std.specs.Vec.{vec_len, vec_capacity}
use Rattle.chunk_list.specs.Chunks.{full, joined, AreStarts}
use Rattle.chunk_list.specs.inner.Chunks.{AreChunksBut}
use Rattle.chunk_list.proofs.room.share.Given as goal

abbrev pub invariant-loop-to : goal.invariant-loop-to
invariant-loop-to g l = record {
  chunks : AreChunksBut l.chunks.items l.at;
  same : joined l.chunks.items ≡ joined l.fn.chunks.items;
  starts : AreStarts l.chunks.items l.starts.inside.items l.starts.bases.items;
  starts_capacity : vec_capacity l.starts.inside ≡ vec_capacity l.fn.starts.inside;
  blocks_capacity : vec_capacity l.starts.bases ≡ vec_capacity l.fn.starts.bases;
  len : vec_len l.chunks ≡ vec_len l.fn.chunks;
  capacity : vec_capacity l.chunks ≡ vec_capacity l.fn.chunks;
  within : l.to < length l.chunks.items;
  free : (l.to ≡ l.at → ⊥) → (d : _) → (vec_len (get_or l.chunks.items l.at d) ≡ full + 1)
      × (vec_len (get_or l.chunks.items l.to d) + l.count ≤ full);
  given : l.to ≡ l.at → (d : _) → vec_len (get_or l.chunks.items l.at d) + l.count ≡ full + 1;
}

abbrev pub decreases-loop-to : goal.decreases-loop-to
decreases-loop-to g l = (l.to - l.at) + (l.at - l.to)
