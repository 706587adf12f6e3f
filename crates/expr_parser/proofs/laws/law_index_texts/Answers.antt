use Rattle.expr_parser.proofs.ReadBack.{texts_of_exprs, exprs_of_texts}
use Rattle.expr_parser.proofs.laws.law_index_texts.Goals as goal

pub returns : goal.returns
returns c = record { texts = texts_of_exprs; forms = exprs_of_texts }
