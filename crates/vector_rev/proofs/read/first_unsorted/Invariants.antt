use Rattle.std.proofs.Common.{T, take}
use Rattle.std.specs.FinMap.Entries.{is_sorted}
use Rattle.u1_base.specs.Ids.{id_cmp}
use Rattle.vector_rev.proofs.read.first_unsorted.Given as goal

abbrev pub invariant-loop-i : goal.invariant-loop-i
invariant-loop-i l = T (is_sorted id_cmp (take l.i l.entries))
