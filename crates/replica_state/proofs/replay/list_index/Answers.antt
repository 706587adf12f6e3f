-- The index is put in its place.
use Rattle.replica_state.proofs.Replaying.{listed_one}
use Rattle.replica_state.proofs.replay.list_index.Goals as goal

pub returns : goal.returns
returns c =
    listed_one c.unbuilt-index.result c.add_index.new.indexes.items c.reserve.new.self.items c.args.listed.now.items
    c.args.name c.args.exprs c.add_index.ensures c.in_ok-reserve.ensures.items c.unbuilt-index.ensures.name
    c.unbuilt-index.ensures.exprs
