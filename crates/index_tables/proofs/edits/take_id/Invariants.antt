-- What was looked at is filtered, and the rest is as it was.
use Rattle.std.proofs.Common.{◌≡◌, ◌≤◌, ◌++◌, length, not, filter, take, drop}
use Rattle.index_tables.specs.Entries.{is_of}
use Rattle.index_tables.specs.Seen.{seen}
use Rattle.index_tables.proofs.edits.take_id.Given as goal

abbrev pub invariant-loop-place : goal.invariant-loop-place
invariant-loop-place l = record {
  within : l.place ≤ length l.fn.list.items;
  kept : seen l.list.items ≡ take l.place (seen l.fn.list.items)
      ++ filter (λ p. not (is_of l.id p)) (drop l.place (seen l.fn.list.items));
  room : l.list.room ≡ l.fn.list.room;
}

abbrev pub decreases-loop-place : goal.decreases-loop-place
decreases-loop-place l = l.place
