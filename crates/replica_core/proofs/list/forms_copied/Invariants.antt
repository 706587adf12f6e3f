-- The first ones are copied.
use Rattle.std.proofs.Common.{◌≡◌, map, take}
use Rattle.expr_parser.specs.FormOf.{form_of}
use Rattle.replica_core.proofs.list.forms_copied.Given as goal

abbrev pub invariant-loop-expr : goal.invariant-loop-expr
invariant-loop-expr l = map form_of l.copies ≡ map form_of (take l.expr-index l.exprs)
