use Rattle.std.proofs.Common.{◌≡◌, take}
use Rattle.expr_eval.specs.inner.Lent.{lent}
use Rattle.expr_eval.proofs.product.copies_of.Given as goal

abbrev pub invariant-loop-text : goal.invariant-loop-text
invariant-loop-text l = l.copies.items ≡ lent (take l.text-index l.texts)
