-- The pairs of the document that were there are gone, so that its new ones are new.
use Rattle.replica_state.proofs.Changing.{change_fresh, change_table, change_wide}
use Rattle.replica_state.proofs.changes.change_index.Goals as goal

pub put_pairs-requires-clause-fresh : goal.put_pairs-requires-clause-fresh
put_pairs-requires-clause-fresh c =
    change_fresh c.args.docs.now.pairs c.args.id.now c.args.set.now c.args.index.now c.as_slice.result.now
    c.args.change c.drop_pairs.new.self.pairs c.requires.tied c.requires.change c.as_slice.ensures
    c.drop_pairs.ensures.pairs

pub invariant_of-index : goal.invariant_of-index
invariant_of-index c = record {
  wide = change_wide c.args.docs.now.pairs c.args.id.now c.args.set.now c.args.index.now c.as_slice.result.now
      c.args.change c.drop_pairs.new.self.pairs c.requires.tied c.requires.change c.as_slice.ensures
      c.drop_pairs.ensures.pairs c.put_pairs.new.self.pairs c.put_pairs.ensures.members;
}

pub returns-clause-tied : goal.returns-clause-tied
returns-clause-tied c =
    change_table c.args.docs.now.pairs c.args.id.now c.args.set.now c.args.index.now c.as_slice.result.now
    c.args.change c.drop_pairs.new.self.pairs c.requires.tied c.requires.change c.as_slice.ensures
    c.drop_pairs.ensures.pairs c.put_pairs.new.self.pairs c.put_pairs.ensures.members
