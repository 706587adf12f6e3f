use Rattle.std.proofs.Common.{◌≡◌, take, map}
use Rattle.content.specs.TreeOf.{tree_of}
use Rattle.expr_parser.specs.FormOf.{form_of}
use Rattle.expr_eval.specs.Values.{texts_of}
use Rattle.expr_eval.proofs.product.texts_of_each.Given as goal

abbrev pub invariant-loop-expr : goal.invariant-loop-expr
invariant-loop-expr l = l.lists.items ≡ map (λ e. texts_of (form_of e) (tree_of l.root)) (take l.expr-index l.exprs)
