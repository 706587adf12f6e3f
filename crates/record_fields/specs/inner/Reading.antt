-- Beside specs/Reading: words of private contracts and of proofs.
use Rattle.std.specs.Prelude.{◌≡◌, Option, Some, None}
use Rattle.expr_parser.specs.declared.expr.Expr.{Expr}
use Rattle.expr_parser.specs.FormOf.{form_of}
use Rattle.expr_parser.specs.Canonical.{canonical}
use Rattle.expr_parser.specs.Reading.{IsExpr}
use Rattle.record_fields.specs.Table.{Text}
use Rattle.record_fields.specs.Plain.{expression_in}

-- the canonical text of an expression
abbrev pub text_of : Expr → Text
text_of e = canonical (form_of e)

-- the expression whose canonical text this is
abbrev pub IsExpression : Text → Option Expr → Type 0
IsExpression s None = expression_in s ≡ None
IsExpression s (Some e) = (expression_in s ≡ Some (text_of e)) × IsExpr (form_of e)
