-- The table holds the pairs of the documents and no others.
use Rattle.replica_state.proofs.Building.{ok_table}
use Rattle.replica_state.specs.Keyed.{keyed}
use Rattle.replica_state.proofs.build.build.Goals as goal

pub returns : goal.returns
returns c =
    ok_table c.table_with.result (keyed c.args.exprs.now.texts c.args.docs.now.pairs) c.in_ok-pairs.pairs
    c.in_ok-pairs.ensures c.table_with.ensures
