-- Each turn writes one more entry.
use Rattle.std.proofs.Common.{arith}
use Rattle.vector_rev.proofs.Spelling.{entries_text_more}
use Rattle.vector_rev.proofs.clock.Clock.text.Goals as goal

pub loop-i-preserved : goal.loop-i-preserved
loop-i-preserved c =
    entries_text_more c.entries-entries.result.now c.loop-i.i c.index-entries-i.result _ _
    (omega arith) c.index-entries-i.is c.loop-i.invariant c.in_ok-push_separated.ensures
