-- The list and the pairs that are left hold together what they held at first.
use Rattle.std.proofs.Common.{◌≡◌, ◌+◌, ◌||◌, length, vec_len}
use Rattle.index_tables.specs.Order.{Entry, IsInOrder}
use Rattle.index_tables.specs.Entries.{AreDistinct, AreNew, has}
use Rattle.index_tables.specs.Seen.{seen}
use Rattle.index_tables.proofs.edits.put_each.Given as goal

abbrev pub invariant-loop-pair : goal.invariant-loop-pair
invariant-loop-pair l = record {
  order : IsInOrder (seen l.list.items);
  distinct : AreDistinct (seen l.pairs.items);
  fresh : AreNew (seen l.list.items) (seen l.pairs.items);
  members : (p : Entry) → (has (seen l.list.items) p || has (seen l.pairs.items) p)
      ≡ (has (seen l.fn.list.items) p || has (seen l.fn.pairs.items) p);
  count : length (seen l.list.items) + vec_len l.pairs ≡ length (seen l.fn.list.items) + vec_len l.fn.pairs;
  room : l.list.room + vec_len l.fn.pairs ≡ l.fn.list.room + vec_len l.pairs;
}

abbrev pub decreases-loop-pair : goal.decreases-loop-pair
decreases-loop-pair l = vec_len l.pairs
