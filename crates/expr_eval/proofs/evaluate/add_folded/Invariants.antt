use Rattle.std.proofs.Common.{◌≡◌, ◌++◌, map, take}
use Rattle.expr_eval.specs.declared.value.Value.TheVariants.{Text}
use Rattle.expr_eval.specs.Texts.{folded}
use Rattle.expr_eval.specs.inner.Lent.{lent}
use Rattle.expr_eval.proofs.evaluate.add_folded.Given as goal

abbrev pub invariant-loop-text : goal.invariant-loop-text
invariant-loop-text l = l.out.items ≡ l.initial.out.items
    ++ map Text (map folded (lent (take l.text-index l.text-items)))
