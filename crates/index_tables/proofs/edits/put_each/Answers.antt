-- One pair more is in the list, and one less is left.
use Rattle.std.proofs.Common.{arith}
use Rattle.index_tables.specs.Seen.{seen}
use Rattle.index_tables.proofs.PutIn.{is_fresh, rest_distinct, rest_fresh, all_members}
use Rattle.index_tables.proofs.edits.put_each.Goals as goal

pub put-requires-clause-fresh : goal.put-requires-clause-fresh
put-requires-clause-fresh c =
    let i = c.loop-pair.invariant in
    is_fresh (seen c.loop-pair.list.items) (seen c.loop-pair.list.items) (seen c.args.list.now.items)
    (seen c.args.pairs.items) c.loop-pair.pairs.items c.pop.new.self.items c.in-Some.pair c.in-Some.ensures.items
    i.distinct i.fresh

pub loop-pair-preserved : goal.loop-pair-preserved
loop-pair-preserved c =
    let i = c.loop-pair.invariant in
    let taken = c.in-Some.ensures.items in
    record {
      order = c.put.ensures.order;
      distinct = rest_distinct (seen c.loop-pair.list.items) (seen c.put.new.list.items) (seen c.args.list.now.items)
          (seen c.args.pairs.items) c.loop-pair.pairs.items c.pop.new.self.items c.in-Some.pair taken
          i.distinct i.fresh;
      fresh = rest_fresh (seen c.loop-pair.list.items) (seen c.put.new.list.items) (seen c.args.list.now.items)
          (seen c.args.pairs.items) c.loop-pair.pairs.items c.pop.new.self.items c.in-Some.pair taken i.distinct
          i.fresh c.put.ensures.members;
      members = all_members (seen c.loop-pair.list.items) (seen c.put.new.list.items) (seen c.args.list.now.items)
          (seen c.args.pairs.items) c.loop-pair.pairs.items c.pop.new.self.items c.in-Some.pair taken i.distinct
          i.fresh c.put.ensures.members i.members;
      count = omega (arith, c.in-Some.ensures.cases);
      room = omega (arith, c.in-Some.ensures.cases);
    }
