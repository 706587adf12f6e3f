-- New pairs beside distinct ones are distinct together.
use Rattle.std.proofs.Common.{List, sym, subst}
use Rattle.index_tables.specs.Entries.{AreDistinct, AreNew, entries_of}
use Rattle.index_tables.specs.Order.{Entry}
use Rattle.index_tables.specs.Seen.{seen}
use Rattle.index_tables.proofs.Joined.{distinct_joined}
use Rattle.index_tables.proofs.PutIn.{entries_distinct}
use Rattle.index_tables.proofs.pairs.Pairs.with.Goals as goal

pub invariant_of-result : goal.invariant_of-result
invariant_of-result c =
    subst AreDistinct (sym c.in_ok-with_pairs.ensures)
    (distinct_joined (seen c.self.inside.inner.items) (entries_of c.args.id.now c.args.keys) c.self.invariant
    (entries_distinct c.args.id.now c.args.keys c.requires.distinct)
    (subst (λ (l : List Entry). AreNew l (entries_of c.args.id.now c.args.keys)) (sym c.self.view_is)
    c.requires.fresh))
