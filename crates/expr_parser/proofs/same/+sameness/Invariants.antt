use Rattle.std.proofs.Common.{◌≡◌, drop}
use Rattle.expr_parser.specs.FormOf.{forms_of_all}
use Rattle.expr_parser.specs.Same.{are_same}
use Rattle.expr_parser.proofs.same.+sameness.Given as goal

abbrev pub invariant-same_all-loop-i : goal.invariant-same_all-loop-i
invariant-same_all-loop-i l = are_same (forms_of_all l.xs.items) (forms_of_all l.ys.items)
    ≡ are_same (forms_of_all (drop l.i l.xs.items)) (forms_of_all (drop l.i l.ys.items))
