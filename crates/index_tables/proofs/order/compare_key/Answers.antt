-- Where the abbreviated keys differ they decide.
use Rattle.index_tables.proofs.Deciding.{greater_by_abbreviated, less_by_abbreviated}
use Rattle.index_tables.proofs.order.compare_key.Goals as goal

pub returns-in-Less : goal.returns-in-Less
returns-in-Less c = less_by_abbreviated c.args.pair.now.key c.args.key.now c.args.pair.now.abbreviated
    c.args.abbreviated c.args.pair.now.abbreviates c.requires c.in-Less.ensures

pub returns-in-Greater : goal.returns-in-Greater
returns-in-Greater c = greater_by_abbreviated c.args.pair.now.key c.args.key.now c.args.pair.now.abbreviated
    c.args.abbreviated c.args.pair.now.abbreviates c.requires c.in-Greater.ensures
