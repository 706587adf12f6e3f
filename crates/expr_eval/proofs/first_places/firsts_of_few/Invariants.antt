-- Each of the texts so far stands once in the list.
use Rattle.std.proofs.Common.{◌≡◌, take}
use Rattle.expr_eval.specs.inner.Lent.{lent}
use Rattle.expr_eval.specs.Words.{distinct}
use Rattle.expr_eval.proofs.first_places.firsts_of_few.Given as goal

abbrev pub invariant-loop-text : goal.invariant-loop-text
invariant-loop-text l = lent l.firsts.items ≡ distinct (lent (take l.text-index l.texts))
