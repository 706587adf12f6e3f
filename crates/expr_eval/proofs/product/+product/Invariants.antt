-- The keys of the first texts of the list, each list being one fewer than before.
use Rattle.std.proofs.Common.{◌≡◌, ◌+◌, ◌*◌, ◌++◌, ◌∷◌, ◌≤◌, length, map, take}
use Rattle.expr_eval.specs.Keys.{most}
use Rattle.expr_eval.specs.inner.Lent.{behind, lent}
use Rattle.expr_eval.proofs.product.+product.Given as goal

abbrev pub decreases-add_keys : goal.decreases-add_keys
decreases-add_keys l = 2 * length l.lists.now

abbrev pub decreases-add_keys_of_each : goal.decreases-add_keys_of_each
decreases-add_keys_of_each l = 2 * length l.others.now + 1

abbrev pub invariant-add_keys_of_each-loop-text : goal.invariant-add_keys_of_each-loop-text
invariant-add_keys_of_each-loop-text l = record {
  front : l.front.items ≡ l.initial.front.items;
  few : length l.keys ≤ most;
  keys : l.keys ≡ take most
      (l.initial.keys ++ behind (lent l.initial.front.items)
      (lent (take l.text-index l.texts) ∷ map (λ list. lent list.items) l.others));
}
