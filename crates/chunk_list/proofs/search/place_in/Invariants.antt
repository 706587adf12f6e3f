use Rattle.std.proofs.Common.{◌-◌, ◌<◌, ◌≤◌, length, true, false}
use Rattle.std.specs.Fn.{FnReturnsAt}
use Rattle.std.specs.List.{HoldsAt}
use Rattle.chunk_list.specs.inner.Halves.{StepsLeft}
use Rattle.chunk_list.proofs.search.place_in.Given as goal

abbrev pub invariant-loop-low : goal.invariant-loop-low
invariant-loop-low g l = record {
  known : l.known ≤ l.low;
  rising : l.low ≤ l.high;
  within : l.high ≤ length l.items.items;
  passed : l.known < l.low → HoldsAt (λ x. FnReturnsAt g.F.Fn l.passes x true) l.items.items (l.low - 1);
  failed : l.high < length l.items.items → HoldsAt (λ x. FnReturnsAt g.F.Fn l.passes x false) l.items.items l.high;
  looks : StepsLeft (length l.items.items - l.known) (l.high - l.low) l.fn.steps l.steps;
}

abbrev pub decreases-loop-low : goal.decreases-loop-low
decreases-loop-low g l = l.high - l.low
