-- A text that the set has not met is added last.
use Rattle.std.proofs.Common.{◌≡◌, ℕ, ◌+◌, not, List, [], ◌∷◌, ◌++◌, Bor, take, get_or, sym, ap, ◌∙◌}
use Rattle.std.proofs.lemmas.List.{take_more}
use Rattle.expr_eval.specs.inner.Lent.{lent}
use Rattle.expr_eval.specs.Words.{distinct}
use Rattle.expr_eval.proofs.Places.{has, met, new_text, old_text}
use Rattle.expr_eval.proofs.first_places.firsts_of_many.Goals as goal
use Rattle.expr_eval.proofs.first_places.firsts_of_many.Goals.{then-branch+in_ok-push, else-branch}

pub loop-text-preserved : goal.loop-text-preserved
loop-text-preserved c =
    let texts = c.args.texts.now in
    let i = c.loop-text.text-index in
    let none : Bor (List ℕ) = record { ref_ptr = (0, 0); now = [] } in
    let text : Bor (List ℕ) = get_or texts i none in
    let before : List (Bor (List ℕ)) = take i texts in
    let more : take (i + 1) texts ≡ before ++ text ∷ [] = take_more texts i none c.loop-text-test.true in
    let new : c.in_ok-insert.field-0 ≡ not (has (lent before) text.now) = c.in_ok-insert.ensures.added
    ∙ ap not (c.loop-text.invariant.seen text) in
    let firsts : lent c.if-branch.firsts.items ≡ distinct (lent (before ++ text ∷ [])) = elim c.if-branch.branch [
      | then-branch+in_ok-push w ↦
          ap (λ v. lent v.items) w.firsts-is ∙ (ap lent w.in_ok-push.ensures.items
          ∙ new_text before c.loop-text.firsts.items text c.in_ok-insert.field-0 new w.if-branch.true
          c.loop-text.invariant.firsts)
      | else-branch w ↦
          ap (λ v. lent v.items) w.firsts-is
          ∙ old_text before c.loop-text.firsts.items text c.in_ok-insert.field-0 new w.if-branch.false
          c.loop-text.invariant.firsts
    ] in
    record {
      firsts = firsts ∙ ap (λ (l : List (Bor (List ℕ))). distinct (lent l)) (sym more);
      seen = λ q. met c.loop-text.seen.keys c.insert.new.self.keys before text q (c.in_ok-insert.ensures.updates.0 q)
          (c.loop-text.invariant.seen q)
          ∙ ap (λ (l : List (Bor (List ℕ))). has (lent l) q.now) (sym more);
    }
