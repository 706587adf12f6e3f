-- The pair goes where the search for it ended.
use Rattle.std.proofs.Common.{refl}
use Rattle.index_tables.proofs.PutIn.{put_members, put_order}
use Rattle.index_tables.proofs.edits.put.Goals as goal

pub returns-clause-order : goal.returns-clause-order
returns-clause-order c =
    let s = c.place_for-place.ensures in
    put_order c.args.list.now.items c.insert.new.self.items c.args.pair c.args.pair.key c.place_for-place.result
    refl s.within c.insert.ensures.items c.requires.order s.before s.after c.requires.fresh

pub returns-clause-members : goal.returns-clause-members
returns-clause-members c = put_members c.args.list.now.items c.insert.new.self.items c.args.pair c.args.pair.key
    c.place_for-place.result refl c.place_for-place.ensures.within c.insert.ensures.items
