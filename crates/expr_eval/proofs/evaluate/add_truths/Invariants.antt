use Rattle.std.proofs.Common.{◌≡◌, ◌++◌, map, take}
use Rattle.expr_eval.specs.declared.value.Value.TheVariants.{Text}
use Rattle.expr_eval.specs.Texts.{truth_text}
use Rattle.expr_eval.proofs.evaluate.add_truths.Given as goal

abbrev pub invariant-loop-truth : goal.invariant-loop-truth
invariant-loop-truth l = l.out.items ≡ l.initial.out.items
    ++ map Text (map truth_text (take l.truth-index l.truth-items))
