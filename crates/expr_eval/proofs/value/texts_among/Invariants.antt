use Rattle.std.proofs.Common.{◌≡◌, take}
use Rattle.expr_eval.specs.Kinds.{texts_in}
use Rattle.expr_eval.specs.inner.Lent.{lent}
use Rattle.expr_eval.proofs.value.texts_among.Given as goal

abbrev pub invariant-loop-value : goal.invariant-loop-value
invariant-loop-value l = lent l.texts.items ≡ texts_in (take l.value-index l.values)
