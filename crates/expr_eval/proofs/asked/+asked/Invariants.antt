use Rattle.std.proofs.Common.{◌≡◌, ◌++◌, drop}
use Rattle.expr_parser.specs.FormOf.{forms_of_all}
use Rattle.expr_eval.specs.Asked.{names_asked_by_each}
use Rattle.expr_eval.proofs.asked.+asked.Given as goal

abbrev pub invariant-add_names_of_each-loop-expr : goal.invariant-add_names_of_each-loop-expr
invariant-add_names_of_each-loop-expr l =
    l.out.items ++ names_asked_by_each (forms_of_all (drop l.expr-index l.expr-items))
    ≡ l.initial.out.items ++ names_asked_by_each (forms_of_all l.expr-items)
