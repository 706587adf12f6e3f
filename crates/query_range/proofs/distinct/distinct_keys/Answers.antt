-- Each turn looks at one pair, and keeps its key where that is not the last one.
use Rattle.std.proofs.Common.{◌-◌, ◌≤◌, ℕ, List, length, slice_get, sym, subst, ◌∙◌, ap, arith}
use Rattle.index_tables.specs.Order.{Entry}
use Rattle.query_range.specs.Answers.{AreKeys}
use Rattle.query_range.specs.inner.Wanted.{is_key}
use Rattle.query_range.proofs.Keys.{all_listed, listed_known, listed_new, past_list}
use Rattle.query_range.proofs.Laws.{keys_of_is}
use Rattle.query_range.proofs.distinct.distinct_keys.Goals as goal
use Rattle.query_range.proofs.distinct.distinct_keys.Goals.{then-not-is_last+in_ok-copy+in_ok-push, else-not-is_last}
use Rattle.query_range.proofs.distinct.distinct_keys.Goals.{else-loop-place-test, then-loop-place-test+in_default}

pub loop-place-preserved : goal.loop-place-preserved
loop-place-preserved g c =
    let last_is = c.is_last.ensures
    ∙ ap (λ (l : List (List (List ℕ))). is_key (slice_get l (length l - 1)) c.in-Some.key.now) c.as_slice.ensures in
    let here = c.in-Some.ensures.value
    ∙ ap (λ (l : List Entry). slice_get l c.loop-place.place) c.loop-place.invariant.pairs in
    let pairs = c.in-Some.ensures.pairs ∙ c.loop-place.invariant.pairs in
    elim c.if-not-is_last.branch [
      | then-not-is_last+in_ok-copy+in_ok-push w ↦ record {
        pairs = pairs;
        listed = listed_new c.args.table.now.pairs c.args.table.now.order c.loop-place.place c.loop-place.keys
            c.args.steps.now c.loop-place.steps c.loop-place.invariant.listed
            (c.in-Some.key.now, c.in-Some.field-0-1.now) here c.is_last.result last_is w.if-not-is_last.true
            w.in_ok-copy.field-0 w.in_ok-copy.ensures c.if-not-is_last.keys
            (w.keys-is ∙ w.in_ok-push.ensures.ok) c.entry.new.steps (omega (arith, c.entry.ensures.looks));
      }
      | else-not-is_last w ↦ record {
        pairs = pairs;
        listed = listed_known c.args.table.now.pairs c.args.table.now.order c.loop-place.place c.loop-place.keys
            c.args.steps.now c.loop-place.steps c.loop-place.invariant.listed
            (c.in-Some.key.now, c.in-Some.field-0-1.now) here c.is_last.result last_is w.if-not-is_last.false
            c.if-not-is_last.keys w.keys-is c.entry.new.steps (omega (arith, c.entry.ensures.looks));
      }
    ]

pub returns-clause-filtered : goal.returns-clause-filtered
returns-clause-filtered g c =
    let whole : length c.args.table.now.pairs ≤ c.loop-place.place = elim c.loop-place-test.branch [
      | else-loop-place-test w ↦ omega (arith, w.loop-place-test.false, c.length-place-end.ensures)
      | then-loop-place-test+in_default w ↦ past_list c.args.table.now.pairs c.loop-place.place
          (w.in_default.ensures.value
          ∙ ap (λ (l : List Entry). slice_get l c.loop-place.place) c.loop-place.invariant.pairs)
    ] in
    all_listed c.args.table.now.pairs c.loop-place.place c.loop-place.keys c.args.steps.now c.loop-place.steps whole
    c.loop-place.invariant.listed

pub returns-clause-found : goal.returns-clause-found
returns-clause-found g c =
    let whole : length c.args.table.now.pairs ≤ c.loop-place.place = elim c.loop-place-test.branch [
      | else-loop-place-test w ↦ omega (arith, w.loop-place-test.false, c.length-place-end.ensures)
      | then-loop-place-test+in_default w ↦ past_list c.args.table.now.pairs c.loop-place.place
          (w.in_default.ensures.value
          ∙ ap (λ (l : List Entry). slice_get l c.loop-place.place) c.loop-place.invariant.pairs)
    ] in
    subst (AreKeys c.args.table.now.pairs)
    (sym (all_listed c.args.table.now.pairs c.loop-place.place c.loop-place.keys c.args.steps.now c.loop-place.steps
    whole c.loop-place.invariant.listed))
    (keys_of_is c.args.table.now.pairs c.args.table.now.order)
