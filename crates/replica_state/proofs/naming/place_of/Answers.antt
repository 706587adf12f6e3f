-- One name more is below, or the count ends.
use Rattle.std.proofs.Common.{◌∙◌, ◌+◌, arith, ap, sym, refl}
use Rattle.std.specs.Ordering.{is_lt}
use Rattle.replica_state.proofs.Named.{counted, ended, stopped}
use Rattle.replica_state.proofs.naming.place_of.Goals as goal

pub loop-index-preserved : goal.loop-index-preserved
loop-index-preserved c = record {
  place = omega (arith, c.loop-index.invariant.place);
  below = counted c.args.name.now c.args.indexes.now c.loop-index.index-index
      (c.loop-index.index-index + 1) c.loop-index.place c.index-item.result refl c.loop-index-test.true c.index-item.is
      (ap is_lt (sym c.cmp.ensures) ∙ sym c.is_lt.ensures ∙ c.if-is_lt.true) c.loop-index.invariant.below;
}

pub returns-else-is_lt : goal.returns-else-is_lt
returns-else-is_lt c =
    stopped c.args.name.now c.args.indexes.now c.loop-index.index-index c.loop-index.place c.index-item.result
    c.loop-index-test.true c.index-item.is
    (ap is_lt (sym c.cmp.ensures) ∙ sym c.is_lt.ensures ∙ c.if-is_lt.false) c.loop-index.invariant.below

pub returns : goal.returns
returns c = ended c.args.name.now c.args.indexes.now c.loop-index.index-index c.loop-index.place
    c.loop-index-test.false c.loop-index.invariant.below
