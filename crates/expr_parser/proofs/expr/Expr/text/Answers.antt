-- The spelling is the canonical one: no text of the form is shorter, and it is read as the form.
use Rattle.std.proofs.Common.{◌≡◌, ◌++◌, ap, subst, sym, ◌∙◌}
use Rattle.expr_parser.specs.FormOf.{form_of}
use Rattle.expr_parser.specs.Canonical.{canonical, IsShortest}
use Rattle.expr_parser.specs.Reading.{expr_in}
use Rattle.expr_parser.proofs.Spelled.{canonical-shortest}
use Rattle.expr_parser.proofs.expr.Expr.text.Goals as goal

pub returns : goal.returns
returns c =
    let f = form_of c.args.self.now in
    let spelling : c.in_ok-text.text ≡ canonical f = c.in_ok-text.ensures
    ∙ (c.in_ok-spell.ensures ∙ ap (λ x. x ++ canonical f) c.new-spelling.ensures.bytes) in
    record {
      value = spelling;
      shortest = subst (IsShortest f) (sym spelling) (canonical-shortest f);
      reads_back = λ is. ap expr_in spelling ∙ is;
    }
