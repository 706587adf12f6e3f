-- Two neighbours in order take the walk one on; two that are not end it.
use Rattle.std.proofs.Common.{refl, arith}
use Rattle.vector_rev.proofs.Walks.{cmp_is}
use Rattle.vector_rev.proofs.Reading.{first_unsorted_at, sorted_on, sorted_start, sorted_end}
use Rattle.vector_rev.proofs.read.first_unsorted.Goals as goal

pub returns-in-Equal : goal.returns-in-Equal
returns-in-Equal c =
    first_unsorted_at c.args.entries.now c.loop-i.i c.index-entries-i.result c.index-entries-i-in-loop-i.result _
    (omega arith) (omega arith) c.index-entries-i.is c.index-entries-i-in-loop-i.is
    (cmp_is _ _ _ _ _ _ c.uid.ensures.value c.uid-in-loop-i.ensures.value c.cmp.ensures c.in-Equal.is) refl
    c.loop-i.invariant

pub returns-in-Greater : goal.returns-in-Greater
returns-in-Greater c =
    first_unsorted_at c.args.entries.now c.loop-i.i c.index-entries-i.result c.index-entries-i-in-loop-i.result _
    (omega arith) (omega arith) c.index-entries-i.is c.index-entries-i-in-loop-i.is
    (cmp_is _ _ _ _ _ _ c.uid.ensures.value c.uid-in-loop-i.ensures.value c.cmp.ensures c.in-Greater.is) refl
    c.loop-i.invariant

pub loop-i-init : goal.loop-i-init
loop-i-init c = sorted_start c.args.entries.now

pub loop-i-preserved : goal.loop-i-preserved
loop-i-preserved c =
    sorted_on c.args.entries.now c.loop-i.i c.index-entries-i.result c.index-entries-i-in-loop-i.result (omega arith)
    (omega arith) c.index-entries-i.is c.index-entries-i-in-loop-i.is
    (cmp_is _ _ _ _ _ _ c.uid.ensures.value c.uid-in-loop-i.ensures.value c.cmp.ensures c.in-Less.is) c.loop-i.invariant

pub returns : goal.returns
returns c = sorted_end c.args.entries.now c.loop-i.i (omega arith) c.loop-i.invariant
