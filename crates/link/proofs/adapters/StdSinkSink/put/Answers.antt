-- One more write: the writer has the next bytes of the piece too.
use Rattle.std.proofs.Common.{arith}
use Rattle.link.proofs.Puts.{appends-next}
use Rattle.link.proofs.adapters.StdSinkSink.put.Goals as goal

pub loop-done-preserved : goal.loop-done-preserved
loop-done-preserved g c = record {
  within = omega (arith, c.write_some-count.ensures.within, c.split_at.ensures.back_len);
  taken = appends-next _ _ _ c.args.piece.now c.loop-done.done c.write_some-count.result c.loop-done.invariant.taken
      (rw c.split_at.ensures.back at c.write_some-count.ensures.appended);
  faults = c.loop-done.invariant.faults;
  noted = c.loop-done.invariant.noted;
}
