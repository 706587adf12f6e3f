-- Each turn takes one pair, until one is not taken.
use Rattle.std.proofs.Common.{rules, ◌≡◌, ℕ, List, [], ◌∷◌, ◌++◌, IfOk, slice_get, refl, sym, subst, ◌∙◌, ap, arith}
use Rattle.std.proofs.lemmas.List.{drop_all}
use Rattle.index_tables.specs.Order.{Entry}
use Rattle.u1_base.specs.Ids.{id_cmp}
use Rattle.query_range.specs.Answers.{firsts}
use Rattle.query_range.specs.inner.Wanted.{takes}
use Rattle.query_range.proofs.Walks.{none_from, past_end, refused, told, took, walk_ends}
use Rattle.query_range.proofs.wanted.ids_from.Goals as goal
use Rattle.query_range.proofs.wanted.ids_from.Goals.{else-loop-place-test, then-loop-place-test+in_default}
use Rattle.query_range.proofs.wanted.ids_from.Goals.{then-loop-place-test+in-Some+then-not-takes}

pub loop-place-preserved : goal.loop-place-preserved
loop-place-preserved g c =
    let pairs = c.loop-place.invariant.pairs in
    let pushed : c.push.new.self.items ≡ c.loop-place.found.items ++ c.in-Some.id ∷ [] = search rules in
    record {
      pairs = c.in-Some.ensures.pairs ∙ pairs;
      walked =
          took (λ p. takes c.args.wanted.now p.0) c.args.table.now.pairs c.args.from c.loop-place.place
          c.loop-place.found.items c.args.steps.now c.loop-place.steps c.loop-place.invariant.walked
          (c.in-Some.key.now, c.in-Some.id.now) (c.in-Some.ensures.value
          ∙ ap (λ (l : List Entry). slice_get l c.loop-place.place) pairs) (sym c.takes.ensures ∙ c.if-not-takes.false)
          c.in-Some.id refl c.push.new.self.items pushed c.entry.new.steps (omega (arith, c.entry.ensures.looks));
    }

pub returns-clause-ids : goal.returns-clause-ids
returns-clause-ids g c =
    let test = λ (p : Entry). takes c.args.wanted.now p.0 in
    let ps = c.args.table.now.pairs in
    let place = c.loop-place.place in
    let walked = c.loop-place.invariant.walked in
    let at = ap (λ (l : List Entry). slice_get l place) c.loop-place.invariant.pairs in
    subst (λ (l : List (List ℕ)). IfOk c.each_once.result (λ ids. ids ≡ firsts id_cmp l))
    (ap told c.as_slice.ensures.value
    ∙ walk_ends test ps c.args.from place c.loop-place.found.items c.args.steps.now c.loop-place.steps walked
    (elim c.loop-place-test.branch [
      | else-loop-place-test w ↦
          past_end test ps c.args.from place c.loop-place.found.items c.args.steps.now c.loop-place.steps walked
          (drop_all place ps (omega (arith, w.loop-place-test.false, c.length-place-end.ensures)))
      | then-loop-place-test+in_default w ↦
          past_end test ps c.args.from place c.loop-place.found.items c.args.steps.now c.loop-place.steps walked
          (none_from ps place (w.in_default.ensures.value ∙ at))
      | then-loop-place-test+in-Some+then-not-takes w ↦
          refused test ps c.args.from place c.loop-place.found.items c.args.steps.now c.loop-place.steps walked
          (w.in-Some.key.now, w.in-Some.id.now) (w.in-Some.ensures.value ∙ at)
          (sym w.takes.ensures ∙ w.if-not-takes.true)
    ]))
    c.each_once.ensures
