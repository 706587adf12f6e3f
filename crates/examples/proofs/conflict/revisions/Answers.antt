-- Each member is copied; at the end all of them are.
use Rattle.std.proofs.Common.{◌∙◌, ◌≤◌, ap, arith, length, refl, [], ◌∷◌, ◌++◌}
use Rattle.vector_rev.specs.Clock.{Clock}
use Rattle.conflicts.specs.Kept.{current_first}
use Rattle.examples.proofs.Settling.{all_members, one_more}
use Rattle.examples.proofs.conflict.revisions.Goals as goal
use Rattle.examples.proofs.conflict.revisions.Goals.{else-loop-place-test, then-loop-place-test+in_default}

pub loop-place-preserved : goal.loop-place-preserved
loop-place-preserved c =
    c.in_ok-push.ensures.ok ∙ ap (λ (r : Clock). c.loop-place.all ++ r ∷ []) c.in_ok-copy.ensures
    ∙ one_more (current_first c.args.set.now) c.loop-place.place c.in-Some.member.now c.loop-place.all
    c.in-Some.ensures.value c.loop-place.invariant

pub returns : goal.returns
returns c =
    let past : length c.args.set.now.members ≤ c.loop-place.place = elim c.loop-place-test.branch [
      | else-loop-place-test w ↦ omega (arith, w.loop-place-test.false, c.length-place-end.ensures)
      | then-loop-place-test+in_default w ↦ w.in_default.ensures.none.0 refl
    ] in
    all_members c.args.set.now c.loop-place.place c.loop-place.all past c.loop-place.invariant
