-- The test of two trees tells whether they are one.
use Rattle.std.proofs.Common.{◌≡◌, Bool, true, false, refl, sym, ap, ◌∙◌, true≢false}
use Rattle.std.specs.Prelude.{◌↔◌, IsTrue}
use Rattle.content.specs.Tree.{Tree}
use Rattle.content.specs.Values.{is_same}
use Rattle.content.proofs.SameTrees.{is_same-Decides}
use Rattle.u1_base.proofs.Booleans.{none_true}

-- a truth that tells whether two trees are equal is the test's
pub told_same : (b : Bool) (t u : Tree) → (IsTrue b ↔ (t ≡ u)) → b ≡ is_same t u
told_same true t u h = sym (ap (is_same t) (sym (h.0 refl)) ∙ (is_same-Decides t t).1 refl)
told_same false t u h = sym (none_true _ (λ e. true≢false (sym (h.1 ((is_same-Decides t u).0 e)))))
