-- Nothing may be left behind the expression.
use Rattle.std.proofs.Common.{◌∙◌}
use Rattle.expr_parser.specs.FormOf.{form_of}
use Rattle.expr_parser.specs.Machine.{none}
use Rattle.expr_parser.proofs.Steps.{whole_text}
use Rattle.expr_parser.proofs.descent.whole.Goals as goal

pub returns : goal.returns
returns c =
    c.in_ok-expr.ensures.goes none
    ∙ whole_text (form_of c.in_ok-expr.expr) c.expression.new.reader c.if-not-is_at_end.ensures
