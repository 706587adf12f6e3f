use Rattle.std.proofs.Common.{◌≡◌, take, map}
use Rattle.expr_eval.specs.Keys.{key_texts}
use Rattle.expr_eval.specs.inner.Lent.{lent}
use Rattle.expr_eval.proofs.product.key_texts_of_each.Given as goal

abbrev pub invariant-loop-texts : goal.invariant-loop-texts
invariant-loop-texts l = map (λ list. lent list.items) l.lists.items ≡ map key_texts (take l.texts-index l.given)
