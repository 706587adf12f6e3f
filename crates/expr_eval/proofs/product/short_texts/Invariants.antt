use Rattle.std.proofs.Common.{◌≡◌, take, length, nat_le, filter}
use Rattle.expr_eval.specs.Keys.{longest}
use Rattle.expr_eval.specs.inner.Lent.{lent}
use Rattle.expr_eval.proofs.product.short_texts.Given as goal

abbrev pub invariant-loop-text : goal.invariant-loop-text
invariant-loop-text l = lent l.short.items ≡ filter (λ text. nat_le (length text) longest) (take l.text-index l.texts)
