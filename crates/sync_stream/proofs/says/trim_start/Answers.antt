use Rattle.std.proofs.Common.{arith, ◌∙◌, sym}
use Rattle.std.proofs.lemmas.List.{take_rest}
use Rattle.sync_stream.proofs.Trims.{start_step, start_stop, start_none}
use Rattle.sync_stream.proofs.says.trim_start.Goals as goal
use Rattle.sync_stream.proofs.says.trim_start.Goals.{then-loop-start-test+else-is_blank, else-loop-start-test}

pub loop-start-preserved : goal.loop-start-preserved
loop-start-preserved c = record {
  fits = omega (arith, c.loop-start-test.true);
  same = start_step c.args.bytes.now c.loop-start.start (omega (arith, c.loop-start-test.true))
      (sym c.is_blank.ensures ∙ c.if-is_blank.true) ∙ c.loop-start.invariant.same;
}

pub returns : goal.returns
returns c = elim c.loop-start-test.branch [
  | then-loop-start-test+else-is_blank w ↦ take_rest c.args.bytes.now c.loop-start.start
      ∙ start_stop c.args.bytes.now c.loop-start.start (omega (arith, w.loop-start-test.true))
      (sym w.is_blank.ensures ∙ w.if-is_blank.false) ∙ c.loop-start.invariant.same
  | else-loop-start-test w ↦ take_rest c.args.bytes.now c.loop-start.start
      ∙ start_none c.args.bytes.now c.loop-start.start (omega (arith, w.loop-start-test.false))
      ∙ c.loop-start.invariant.same
]
