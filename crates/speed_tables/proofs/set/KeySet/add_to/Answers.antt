-- The pairs are gone, so that they are new ones.
use Rattle.std.proofs.Common.{List, sym, subst}
use Rattle.index_tables.specs.Entries.{AreNew, entries_of}
use Rattle.index_tables.specs.Order.{Entry}
use Rattle.index_tables.proofs.Laws.{new_after_drop}
use Rattle.speed_tables.proofs.set.KeySet.add_to.Goals as goal

pub add-requires-clause-fresh : goal.add-requires-clause-fresh
add-requires-clause-fresh c =
    subst (λ (keys : List (List (List _))). AreNew c.drop_pairs.new.self.pairs (entries_of c.args.id.now keys))
    c.as_slice.ensures
    (subst (λ (ps : List Entry). AreNew ps (entries_of c.args.id.now c.as_slice.result.now))
    (sym c.drop_pairs.ensures.pairs)
    (new_after_drop c.args.table.now.pairs (entries_of c.args.id.now c.as_slice.result.now)))
