-- What was looked at meets, so that the rest decides.
use Rattle.std.proofs.Common.{◌≡◌, drop}
use Rattle.query_range.specs.Patterns.{meets}
use Rattle.query_range.proofs.pattern.meets_all.Given as goal

abbrev pub invariant-loop-at : goal.invariant-loop-at
invariant-loop-at l = meets l.parts l.texts ≡ meets (drop l.at l.parts) (drop l.at l.texts)
