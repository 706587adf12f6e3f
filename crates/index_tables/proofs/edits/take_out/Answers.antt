-- The pair stands where the search for it ended, or nowhere.
use Rattle.std.proofs.Common.{not}
use Rattle.index_tables.specs.Entries.{same}
use Rattle.index_tables.specs.Seen.{seen}
use Rattle.index_tables.proofs.Gone.{order_kept, stood, stood_not}
use Rattle.index_tables.proofs.edits.take_out.Goals as goal

pub returns-then-stands-clause-pairs : goal.returns-then-stands-clause-pairs
returns-then-stands-clause-pairs c =
    stood c.args.list.now.items (c.args.key.now, c.args.id.now) c.place_of-place.result.0 c.requires
    (c.place_of-place.ensures.stands.yes c.if-stands.true) c.remove.new.self.items c.remove.ensures.items

pub returns-then-stands-clause-order : goal.returns-then-stands-clause-order
returns-then-stands-clause-order c =
    order_kept (λ p. not (same p (c.args.key.now, c.args.id.now))) (seen c.args.list.now.items)
    (seen c.remove.new.self.items)
    (stood c.args.list.now.items (c.args.key.now, c.args.id.now) c.place_of-place.result.0 c.requires
    (c.place_of-place.ensures.stands.yes c.if-stands.true) c.remove.new.self.items c.remove.ensures.items) c.requires

pub returns-else-stands-clause-pairs : goal.returns-else-stands-clause-pairs
returns-else-stands-clause-pairs c =
    let s = c.place_of-place.ensures.place in
    stood_not c.args.list.now.items (c.args.key.now, c.args.id.now) c.place_of-place.result.0 c.requires s.within
    s.before s.after (c.place_of-place.ensures.stands.no c.if-stands.false)
