-- The test of `same` tells equality.
use Rattle.expr_parser.specs.FormOf.{form_of}
use Rattle.expr_parser.proofs.SameForms.{same_tells}
use Rattle.expr_parser.proofs.expr.Expr.same.Goals as goal

pub returns : goal.returns
returns c = same_tells (form_of c.args.self.now) (form_of c.args.other.now) c.same.result c.same.ensures
