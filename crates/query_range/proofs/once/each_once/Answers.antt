-- One id more is seen, and kept where it is a new one.
use Rattle.std.proofs.Common.{◌≡◌, ◌+◌, ◌<◌, ℕ, Bool, cond, List, [], ◌∷◌, ◌++◌, length, map, take, refl, sym, subst}
use Rattle.std.proofs.Common.{◌∙◌, ap, arith, Bor}
use Rattle.std.specs.List.{list_any}
use Rattle.u1_base.specs.Ids.{id_cmp, same_id}
use Rattle.query_range.specs.Answers.{firsts}
use Rattle.query_range.proofs.Places.{once_more, seen_more, taken_next}
use Rattle.query_range.proofs.once.each_once.Goals as goal
use Rattle.query_range.proofs.once.each_once.Goals.{then-branch+in_ok-copy+in_ok-push, else-branch}

pub loop-id-preserved : goal.loop-id-preserved
loop-id-preserved c =
    let found = c.args.found.now in
    let i = c.loop-id.id-index in
    let before : List (List ℕ) = map (λ x. x.now) (take i found) in
    let places = c.loop-id.seen.places.items in
    let others = c.loop-id.seen.others in
    let id = c.as_str.result in
    let ids = c.loop-id.ids in
    let next : map (λ x. x.now) (take i found) ++ id.now ∷ [] ≡ map (λ x. x.now) (take (i + 1) found) =
    taken_next found i c.id-item.result id (omega (arith, c.loop-id-test.true)) c.id-item.is c.as_str.ensures.value in
    let once = once_more before places others c.loop-id.invariant.holding id ids c.if-branch.ids c.in_ok-insert.field-0
    c.loop-id.invariant.ids c.in_ok-insert.ensures.fresh in
    record {
      ids = subst (λ (l : List (List ℕ)). c.if-branch.ids ≡ firsts id_cmp l) next (elim c.if-branch.branch [
        | then-branch+in_ok-copy+in_ok-push w ↦
            once (w.ids-is ∙ w.in_ok-push.ensures.ok
            ∙ ap (λ (x : List ℕ). ids ++ x ∷ []) (w.in_ok-copy.ensures ∙ sym c.as_str.ensures.value)
            ∙ ap (λ (b : Bool). cond b (ids ++ id.now ∷ []) ids) (sym w.if-branch.true))
        | else-branch w ↦ once (w.ids-is ∙ ap (λ (b : Bool). cond b (ids ++ id.now ∷ []) ids) (sym w.if-branch.false))
      ]);
      holding = λ other.
          seen_more before places others c.loop-id.invariant.holding id c.insert.new.self.places.items
          c.insert.new.self.others c.in_ok-insert.ensures.kept other
          ∙ ap (list_any (same_id other.now)) next;
    }
