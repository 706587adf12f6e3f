use Rattle.std.proofs.Common.{◌-◌, ◌<◌, ◌≤◌, length}
use Rattle.chunk_list.specs.Chunks.{begin_of}
use Rattle.chunk_list.proofs.starts.locate.Given as goal

abbrev pub invariant-loop-high : goal.invariant-loop-high
invariant-loop-high g l = record {
  rising : l.low < l.high;
  within : l.high ≤ length l.chunks.items;
  here : begin_of l.starts.inside.items l.starts.bases.items l.low ≤ l.place;
  next : l.high < length l.chunks.items → l.place < begin_of l.starts.inside.items l.starts.bases.items l.high;
}

abbrev pub decreases-loop-high : goal.decreases-loop-high
decreases-loop-high g l = l.high - l.low
