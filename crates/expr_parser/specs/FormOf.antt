-- An expression's value as a plain tree. `forms_of_all` is private.
use Rattle.std.specs.Prelude.{List, map}
use Rattle.expr_parser.specs.declared.expr.Expr.{Expr}
use Rattle.expr_parser.specs.declared.expr.Expr.TheOpen.{Expr-F}
use Rattle.expr_parser.specs.declared.expr.Expr.TheFolds.{fold-Expr}
use Rattle.expr_parser.specs.Forms.{Form, Forms, field, lower, split_words, number, truth, combine, forms_of}

-- one layer, its arguments being forms already
abbrev pub form_step : Expr-F Form → Form
form_step (Expr-F.Field path) = field path
form_step (Expr-F.Lower argument) = lower argument.value
form_step (Expr-F.SplitWords argument) = split_words argument.value
form_step (Expr-F.Number argument width) = number argument.value width
form_step (Expr-F.Truth argument) = truth argument.value
form_step (Expr-F.Combine arguments) = combine (forms_of arguments.items)

-- the form of an expression
abbrev pub form_of : Expr → Form
form_of = fold-Expr Form form_step

-- the forms of a list of expressions
abbrev pub forms_of_all : List Expr → Forms
forms_of_all es = forms_of (map form_of es)
