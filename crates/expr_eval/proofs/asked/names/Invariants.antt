use Rattle.std.proofs.Common.{◌≡◌, ◌++◌, drop, map}
use Rattle.expr_parser.specs.FormOf.{form_of}
use Rattle.expr_eval.specs.Asked.{all_names_asked}
use Rattle.expr_eval.proofs.asked.names.Given as goal

abbrev pub invariant-loop-expr : goal.invariant-loop-expr
invariant-loop-expr l =
    l.out.items ++ all_names_asked (map form_of (drop l.expr-index l.exprs))
    ≡ all_names_asked (map form_of l.exprs)
