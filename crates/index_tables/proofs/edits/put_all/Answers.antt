-- Pairs in another order are the same pairs.
use Rattle.index_tables.specs.Seen.{seen}
use Rattle.index_tables.proofs.Mixed.{mixed_both, mixed_distinct, mixed_new}
use Rattle.index_tables.proofs.edits.put_all.Goals as goal

pub put_each-requires-else-len-lt-MANY-clause-distinct : goal.put_each-requires-else-len-lt-MANY-clause-distinct
put_each-requires-else-len-lt-MANY-clause-distinct c =
    mixed_distinct c.args.pairs.items c.falling-sorted.result.items c.falling-sorted.ensures.same c.requires.distinct

pub put_each-requires-else-len-lt-MANY-clause-fresh : goal.put_each-requires-else-len-lt-MANY-clause-fresh
put_each-requires-else-len-lt-MANY-clause-fresh c =
    mixed_new c.args.pairs.items c.falling-sorted.result.items c.falling-sorted.ensures.same
    (seen c.args.list.now.items) c.requires.fresh

pub returns-else-len-lt-MANY-clause-members : goal.returns-else-len-lt-MANY-clause-members
returns-else-len-lt-MANY-clause-members c =
    mixed_both c.args.pairs.items c.falling-sorted.result.items c.falling-sorted.ensures.same
    (seen c.args.list.now.items) (seen c.put_each-else-len-lt-MANY.new.list.items)
    c.put_each-else-len-lt-MANY.ensures.members
