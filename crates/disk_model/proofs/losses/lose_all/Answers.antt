-- One call more is lost.
use Rattle.std.proofs.Common.{◌+◌, take, drop, sym, ◌∙◌, ap, subst, arith}
use Rattle.disk_model.specs.Disk.{Unsynced, IsCrashImage, settled}
use Rattle.disk_model.specs.Log.{before, reached, step}
use Rattle.disk_model.specs.Losses.{lost}
use Rattle.disk_model.proofs.Histories.{through-more}
use Rattle.disk_model.proofs.losses.lose_all.Goals as goal

pub loop-call-preserved : goal.loop-call-preserved
loop-call-preserved c =
    let u = settled (before c.args.calls.now c.args.file.now) in let i = c.loop-call.call-index
    in let cs = c.args.calls.now in let file = c.args.file.now in
    let choice = c.args.choice in let after = before (drop (i + 1) cs) file in
    record {
      may_be = subst (λ (v : Unsynced). IsCrashImage v c.lose.new.image.items)
          (sym (through-more step u cs i c.call-item.result file (omega arith) c.call-item.is))
          (c.in_ok-lose.ensures.may_be (reached u (take i cs) (before (drop i cs) file)) after
          c.loop-call.invariant.may_be);
      by_choice = c.in_ok-lose.ensures.by_choice after
          ∙ ap (lost choice file c.call-item.result after) c.loop-call.invariant.by_choice
          ∙ sym (through-more (lost choice file) (before cs file) cs i c.call-item.result file
          (omega arith) c.call-item.is);
    }
