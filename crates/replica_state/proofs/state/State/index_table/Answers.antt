-- The first index of the name is one of those that are tied.
use Rattle.std.proofs.Common.{option_copied}
use Rattle.replica_state.proofs.Lending.{lent}
use Rattle.replica_state.proofs.state.State.index_table.Goals as goal

pub returns : goal.returns
returns c =
    lent c.args.self.now c.indexes.result.now c.args.name.now
    (option_copied c.find_index.result) c.indexes.ensures.value c.indexes.ensures.tied c.find_index.ensures
