use Rattle.std.proofs.Common.{length, ◌+◌, ◌-◌}
use Rattle.vector_rev.proofs.Walks.{Compared}
use Rattle.vector_rev.proofs.compare.compare.Given as goal

abbrev pub invariant-loop-i : goal.invariant-loop-i
invariant-loop-i l = Compared l.left l.right l.i l.j l.forward l.backward

abbrev pub decreases-loop-i : goal.decreases-loop-i
decreases-loop-i l = (length l.left - l.i) + (length l.right - l.j)
