use Rattle.std.proofs.Common.{◌∙◌}
use Rattle.expr_eval.specs.Texts.{folded}
use Rattle.expr_eval.proofs.case_fold.case_folded.Goals as goal

pub returns : goal.returns
unfolding folded
returns c = c.in_ok-from_string.ensures ∙ c.in_ok-default_case_fold_str.ensures
