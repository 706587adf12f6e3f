-- The texts so far stand in the set, and each once in the list.
use Rattle.std.proofs.Common.{◌≡◌, ℕ, List, take, Bor}
use Rattle.std.specs.Cmp.Lexicographic.{slice_cmp}
use Rattle.std.specs.List.{list_any}
use Rattle.std.specs.Ordering.{is_eq, nat_cmp}
use Rattle.expr_eval.specs.inner.Lent.{lent}
use Rattle.expr_eval.specs.Words.{distinct}
use Rattle.expr_eval.proofs.Places.{has}
use Rattle.expr_eval.proofs.first_places.firsts_of_many.Given as goal

abbrev pub invariant-loop-text : goal.invariant-loop-text
invariant-loop-text l = record {
  firsts : lent l.firsts.items ≡ distinct (lent (take l.text-index l.texts));
  seen : (q : Bor (List ℕ)) → list_any (λ (k : Bor (List ℕ)). is_eq (slice_cmp nat_cmp q.now k.now)) l.seen.keys
      ≡ has (lent (take l.text-index l.texts)) q.now;
}
