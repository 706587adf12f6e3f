use Rattle.expr_eval.proofs.AskedParts.{keys_same}
use Rattle.expr_eval.proofs.laws.law_part.Goals as goal

pub returns : goal.returns
returns c = keys_same
