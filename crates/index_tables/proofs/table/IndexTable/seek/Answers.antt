-- The list is in order, so that the place divides it.
use Rattle.index_tables.proofs.Sought.{sought}
use Rattle.index_tables.proofs.table.IndexTable.seek.Goals as goal

pub returns-clause-place : goal.returns-clause-place
returns-clause-place g c =
    let f = c.first_from.ensures.place in
    rw (← c.self.view_is) (sought c.self.inside.pairs.items c.args.key.now c.first_from.result c.self.inside.order
    f.within f.before f.after)
