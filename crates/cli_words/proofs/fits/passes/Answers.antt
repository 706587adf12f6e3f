use Rattle.cli_words.proofs.Forms.{passes_answered}
use Rattle.cli_words.proofs.fits.passes.Goals as goal

pub returns : goal.returns
returns c =
    passes_answered _ c.args.synopsis _ c.try_get_matches_from-answer.result _ c.in_ok-command.ensures.shape
    c.try_get_matches_from-answer.ensures.kinds c.verdict.ensures
