-- A text that is not among those in the list is added last.
use Rattle.std.proofs.Common.{◌≡◌, ℕ, ◌+◌, not, List, [], ◌∷◌, ◌++◌, Bor, take, get_or, sym, ap, ◌∙◌}
use Rattle.std.proofs.lemmas.List.{take_more}
use Rattle.expr_eval.specs.inner.Lent.{lent}
use Rattle.expr_eval.specs.Words.{distinct}
use Rattle.expr_eval.proofs.Places.{has, has-distinct, has-lent, new_text, old_text}
use Rattle.expr_eval.proofs.first_places.firsts_of_few.Goals as goal
use Rattle.expr_eval.proofs.first_places.firsts_of_few.Goals.{then-not-is_among+in_ok-push, else-not-is_among}

pub loop-text-preserved : goal.loop-text-preserved
loop-text-preserved c =
    let texts = c.args.texts.now in
    let i = c.loop-text.text-index in
    let none : Bor (List ℕ) = record { ref_ptr = (0, 0); now = [] } in
    let text : Bor (List ℕ) = get_or texts i none in
    let before : List (Bor (List ℕ)) = take i texts in
    let more : take (i + 1) texts ≡ before ++ text ∷ [] = take_more texts i none c.loop-text-test.true in
    let known : c.is_among.result ≡ has (lent before) text.now =
    c.is_among.ensures ∙ (has-lent c.deref.result.now text.now
    ∙ (ap (λ (l : List (Bor (List ℕ))). has (lent l) text.now) c.deref.ensures.value
    ∙ (ap (λ (l : List (List ℕ)). has l text.now) c.loop-text.invariant ∙ has-distinct (lent before) text.now))) in
    let new : not c.is_among.result ≡ not (has (lent before) text.now) = ap not known in
    let firsts : lent c.if-not-is_among.firsts.items ≡ distinct (lent (before ++ text ∷ [])) =
    elim c.if-not-is_among.branch [
      | then-not-is_among+in_ok-push w ↦
          ap (λ v. lent v.items) w.firsts-is ∙ (ap lent w.in_ok-push.ensures.items
          ∙ new_text before c.loop-text.firsts.items text (not c.is_among.result) new
          (ap not w.if-not-is_among.true) c.loop-text.invariant)
      | else-not-is_among w ↦
          ap (λ v. lent v.items) w.firsts-is
          ∙ old_text before c.loop-text.firsts.items text (not c.is_among.result) new
          (ap not w.if-not-is_among.false) c.loop-text.invariant
    ] in
    firsts ∙ ap (λ (l : List (Bor (List ℕ))). distinct (lent l)) (sym more)
