use Rattle.expr_parser.proofs.ReadBack.{expr_in-text, one_form, back, canonical-injective}
use Rattle.expr_parser.proofs.laws.law_exprs.Goals as goal

pub returns : goal.returns
returns c = record { reads = expr_in-text; one = one_form; back = back; apart = canonical-injective }
