-- Each turn goes on in one list at least.
use Rattle.std.proofs.Common.{length, ◌+◌, ◌-◌}
use Rattle.speed_tables.proofs.receipts.are_apart.Given as goal

abbrev pub decreases-loop-i : goal.decreases-loop-i
decreases-loop-i l = (length l.left - l.i) + (length l.right - l.j)
