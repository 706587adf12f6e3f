-- The keys of the pairs so far are kept.
use Rattle.std.proofs.Common.{◌≡◌}
use Rattle.query_range.proofs.Keys.{Listed}
use Rattle.query_range.proofs.distinct.distinct_keys.Given as goal

abbrev pub invariant-loop-place : goal.invariant-loop-place
invariant-loop-place g l = record {
  pairs : l.entries ≡ l.table.pairs;
  listed : Listed l.table.pairs l.place l.keys l.fn.steps l.steps;
}
