-- The pairs of the keys so far are gone.
use Rattle.std.proofs.Common.{◌≡◌, not, filter, take}
use Rattle.index_tables.specs.Order.{IsInOrder}
use Rattle.index_tables.specs.Entries.{entries_of, has}
use Rattle.index_tables.specs.Seen.{seen}
use Rattle.index_tables.proofs.edits.take_keys.Given as goal

abbrev pub invariant-loop-key : goal.invariant-loop-key
invariant-loop-key l = record {
  order : IsInOrder (seen l.list.items);
  kept : seen l.list.items ≡ filter (λ p. not (has (entries_of l.id (take l.key-index l.keys)) p))
      (seen l.fn.list.items);
  room : l.list.room ≡ l.fn.list.room;
}
