-- The key is none of those so far.
use Rattle.std.proofs.Common.{◌≢◌, ℕ, ◌<◌, List, get_or}
use Rattle.speed_tables.proofs.set.is_new.Given as goal

abbrev pub invariant-loop-other : goal.invariant-loop-other
invariant-loop-other l = (k : ℕ) (d : List (List ℕ)) → k < l.other-index → get_or l.keys k d ≢ l.key
