-- Distinct keys give distinct pairs.
use Rattle.std.proofs.Common.{sym, subst}
use Rattle.index_tables.specs.Entries.{AreDistinct}
use Rattle.index_tables.proofs.PutIn.{entries_distinct}
use Rattle.index_tables.proofs.table.IndexTable.pairs.Goals as goal

pub invariant_of-result : goal.invariant_of-result
invariant_of-result c = subst AreDistinct (sym c.in_ok-make_pairs.ensures)
    (entries_distinct c.args.id.now c.args.keys c.requires)
