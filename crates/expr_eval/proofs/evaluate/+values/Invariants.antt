use Rattle.std.proofs.Common.{◌≡◌, ◌++◌, drop}
use Rattle.content.specs.TreeOf.{tree_of}
use Rattle.expr_parser.specs.FormOf.{forms_of_all}
use Rattle.expr_eval.specs.Values.{values_of_each}
use Rattle.expr_eval.proofs.evaluate.+values.Given as goal

abbrev pub invariant-add_values_of_each-loop-expr : goal.invariant-add_values_of_each-loop-expr
invariant-add_values_of_each-loop-expr l =
    l.out.items ++ values_of_each (forms_of_all (drop l.expr-index l.expr-items)) (tree_of l.root)
    ≡ l.initial.out.items ++ values_of_each (forms_of_all l.expr-items) (tree_of l.root)
