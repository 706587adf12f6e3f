-- The table was empty, so that the pairs are new, and it holds no others.
use Rattle.std.proofs.Common.{List, ap, subst, ◌∙◌}
use Rattle.index_tables.specs.Entries.{HoldsBoth, has}
use Rattle.index_tables.specs.Order.{Entry}
use Rattle.replica_state.proofs.build.table_with.Goals as goal

pub put_pairs-requires-clause-fresh : goal.put_pairs-requires-clause-fresh
put_pairs-requires-clause-fresh c p there =
    ap (λ (l : List Entry). has l p) (c.in_ok-reserve.ensures.pairs ∙ c.new-table.ensures.pairs)

pub returns : goal.returns
returns c =
    subst (λ (l : List Entry). HoldsBoth l c.args.pairs c.put_pairs.new.self.pairs)
    (c.in_ok-reserve.ensures.pairs ∙ c.new-table.ensures.pairs) c.put_pairs.ensures.members
