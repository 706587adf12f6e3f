-- The keys so far have the width.
use Rattle.std.proofs.Common.{◌≡◌, ℕ, ◌<◌, length, get_or}
use Rattle.index_tables.specs.Order.{Entry}
use Rattle.speed_tables.proofs.answers.have_width.Given as goal

abbrev pub invariant-loop-place : goal.invariant-loop-place
invariant-loop-place g l = (k : ℕ) (d : Entry) → k < l.place → length (get_or l.table.pairs k d).0 ≡ l.width
