-- The pairs so far are taken.
use Rattle.std.proofs.Common.{◌≡◌}
use Rattle.query_range.specs.inner.Wanted.{takes}
use Rattle.query_range.proofs.Walks.{Walked}
use Rattle.query_range.proofs.wanted.ids_from.Given as goal

abbrev pub invariant-loop-place : goal.invariant-loop-place
invariant-loop-place g l = record {
  pairs : l.entries ≡ l.table.pairs;
  walked : Walked (λ p. takes l.wanted p.0) l.table.pairs l.from l.place l.found.items l.fn.steps l.steps;
}
