use Rattle.std.proofs.Common.{arith, ◌∙◌, sym}
use Rattle.sync_stream.proofs.Trims.{trim_step, trim_stop, trim_none}
use Rattle.sync_stream.proofs.says.trim_end.Goals as goal
use Rattle.sync_stream.proofs.says.trim_end.Goals.{then-loop-end-test+else-is_blank, else-loop-end-test}

pub loop-end-preserved : goal.loop-end-preserved
loop-end-preserved c = record {
  fits = omega (arith, c.loop-end.invariant.fits);
  same = trim_step c.args.bytes.now c.loop-end.end (omega (arith, c.loop-end-test.true)) c.loop-end.invariant.fits
      (sym c.is_blank.ensures ∙ c.if-is_blank.true) ∙ c.loop-end.invariant.same;
}

pub returns : goal.returns
returns c = elim c.loop-end-test.branch [
  | then-loop-end-test+else-is_blank w ↦ trim_stop c.args.bytes.now c.loop-end.end
      (omega (arith, w.loop-end-test.true)) c.loop-end.invariant.fits (sym w.is_blank.ensures ∙ w.if-is_blank.false)
      ∙ c.loop-end.invariant.same
  | else-loop-end-test w ↦ trim_none c.args.bytes.now c.loop-end.end (omega (arith, w.loop-end-test.false))
      ∙ c.loop-end.invariant.same
]
