-- The keys of the table are as wide as the expressions are many.
use Rattle.replica_state.proofs.DocumentKeys.{table_wide}
use Rattle.replica_state.proofs.replace.new_index.Goals as goal

pub invariant_of-index : goal.invariant_of-index
invariant_of-index c = record {
  wide =
      table_wide c.args.exprs.texts c.args.docs.now.pairs c.in_ok-table.table.pairs c.args.exprs.spelled
      c.in_ok-table.ensures;
}
