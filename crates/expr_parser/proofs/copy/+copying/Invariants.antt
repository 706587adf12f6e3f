use Rattle.std.proofs.Common.{◌≡◌, map, take}
use Rattle.expr_parser.specs.FormOf.{form_of}
use Rattle.expr_parser.proofs.copy.+copying.Given as goal

abbrev pub invariant-copied_all-loop-expr : goal.invariant-copied_all-loop-expr
invariant-copied_all-loop-expr l = map form_of l.copies.items ≡ map form_of (take l.expr-index l.exprs.items)
