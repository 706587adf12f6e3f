use Rattle.std.proofs.Common.{◌≡◌, take, flat_map}
use Rattle.expr_eval.specs.inner.Lent.{lent}
use Rattle.expr_eval.specs.Words.{words_in}
use Rattle.expr_eval.proofs.words.words_among.Given as goal

abbrev pub invariant-loop-text : goal.invariant-loop-text
invariant-loop-text l = lent l.words.items ≡ flat_map words_in (lent (take l.text-index l.texts))
