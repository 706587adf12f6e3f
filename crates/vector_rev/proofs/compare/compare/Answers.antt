-- Each turn is a step of the walk along two lists in order.
use Rattle.std.proofs.Common.{arith, inl, inr}
use Rattle.vector_rev.proofs.Walks.{compared_start, compared_less, compared_greater, compared_counters, compared_end}
use Rattle.vector_rev.proofs.Walks.{cmp_is}
use Rattle.vector_rev.proofs.compare.compare.Goals as goal
use Rattle.vector_rev.proofs.compare.compare.Goals.{then-loop-i-test+else-j-right, else-loop-i-test}

pub loop-i-init : goal.loop-i-init
loop-i-init c = compared_start c.args.left.now c.args.right.now c.requires.left c.requires.right

pub loop-i-preserved-in-Less : goal.loop-i-preserved-in-Less
loop-i-preserved-in-Less c =
    compared_less c.args.left.now c.args.right.now c.loop-i.i c.loop-i.j c.loop-i.forward c.loop-i.backward
    c.index-left-i.result c.index-right-j.result (omega arith) (omega arith) c.index-left-i.is c.index-right-j.is
    (cmp_is _ _ _ _ _ _ c.uid.ensures.value c.uid-in-loop-i.ensures.value c.cmp.ensures c.in-Less.is)
    c.loop-i.invariant

pub loop-i-preserved-in-Greater : goal.loop-i-preserved-in-Greater
loop-i-preserved-in-Greater c =
    compared_greater c.args.left.now c.args.right.now c.loop-i.i c.loop-i.j c.loop-i.forward c.loop-i.backward
    c.index-left-i.result c.index-right-j.result (omega arith) (omega arith) c.index-left-i.is c.index-right-j.is
    (cmp_is _ _ _ _ _ _ c.uid.ensures.value c.uid-in-loop-i.ensures.value c.cmp.ensures c.in-Greater.is)
    c.loop-i.invariant

pub loop-i-preserved : goal.loop-i-preserved
loop-i-preserved c =
    compared_counters c.args.left.now c.args.right.now c.loop-i.i c.loop-i.j c.loop-i.forward c.loop-i.backward
    c.index-left-i.result c.index-right-j.result _ _ _ _ (omega arith)
    (omega arith) c.index-left-i.is c.index-right-j.is
    (cmp_is _ _ _ _ _ _ c.uid.ensures.value c.uid-in-loop-i.ensures.value c.cmp.ensures c.in-Equal.is)
    c.counter.ensures c.counter-in-Equal.ensures c.counter-in-Equal-2.ensures c.counter-in-Equal-3.ensures
    c.loop-i.invariant

pub returns-clause-left_covers : goal.returns-clause-left_covers
returns-clause-left_covers c =
    (compared_end c.args.left.now c.args.right.now c.loop-i.i c.loop-i.j c.loop-i.forward c.loop-i.backward
    (elim c.loop-i-test.branch [
      | then-loop-i-test+else-j-right w ↦ inr w.if-j-right.false
      | else-loop-i-test w ↦ inl w.loop-i-test.false
    ]) c.loop-i.invariant).0

pub returns-clause-right_covers : goal.returns-clause-right_covers
returns-clause-right_covers c =
    (compared_end c.args.left.now c.args.right.now c.loop-i.i c.loop-i.j c.loop-i.forward c.loop-i.backward
    (elim c.loop-i-test.branch [
      | then-loop-i-test+else-j-right w ↦ inr w.if-j-right.false
      | else-loop-i-test w ↦ inl w.loop-i-test.false
    ]) c.loop-i.invariant).1
