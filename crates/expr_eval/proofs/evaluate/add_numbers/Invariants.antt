use Rattle.std.proofs.Common.{◌≡◌, ◌++◌, map, take}
use Rattle.expr_eval.specs.declared.value.Value.TheVariants.{Text}
use Rattle.expr_eval.specs.Texts.{number_text}
use Rattle.expr_eval.proofs.evaluate.add_numbers.Given as goal

abbrev pub invariant-loop-number : goal.invariant-loop-number
invariant-loop-number l = l.out.items ≡ l.initial.out.items
    ++ map Text (map (number_text l.width) (take l.number-index l.number-items))
