-- What the comparison of contents tells is the test of trees.
use Rattle.conflicts.proofs.Trees.{told_same}
use Rattle.conflicts.proofs.merges.same_trees.Goals as goal

pub returns : goal.returns
returns c = told_same c.same.result c.args.one.now c.args.other.now c.same.ensures
