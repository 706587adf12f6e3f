-- The next document is listed or it is not; at the end all of them are done.
use Rattle.std.proofs.Common.{◌∙◌, ◌≤◌, Bool, cond, List, [], ◌∷◌, ◌++◌, length, arith, ap}
use Rattle.std.specs.Prelude.{slice_get}
use Rattle.conflicts.specs.Kept.{Kept}
use Rattle.conflicts.specs.State.{Text}
use Rattle.replica_state.proofs.Building.{past_end}
use Rattle.replica_reads.proofs.Listing.{all_of_them, one_more}
use Rattle.replica_reads.proofs.documents.listed_ids.Goals as goal
use Rattle.replica_reads.proofs.documents.listed_ids.Goals.{else-loop-place-test, then-loop-place-test+in_default}

pub loop-place-preserved : goal.loop-place-preserved
loop-place-preserved c = record {
  walk = c.in-Some.ensures.pairs ∙ c.loop-place.invariant.walk;
  ids = one_more c.args.deleted c.args.docs.now.pairs c.loop-place.place c.loop-place.ids c.loop-place.invariant.ids
      c.in-Some.id.now c.in-Some.set.now c.push_if.new.ids
      (c.in-Some.ensures.value
      ∙ ap (λ (l : List (Text × Kept)). slice_get l c.loop-place.place) c.loop-place.invariant.walk)
      (c.in_ok-push_if.ensures
      ∙ ap (λ (b : Bool). c.loop-place.ids ++ cond b (c.in-Some.id.now ∷ []) []) c.is_listed.ensures);
}

pub returns : goal.returns
returns c =
    let docs = c.args.docs.now.pairs in
    let all : length docs ≤ c.loop-place.place = elim c.loop-place-test.branch [
      | else-loop-place-test w ↦ omega (arith, w.loop-place-test.false, c.length-place-end.ensures)
      | then-loop-place-test+in_default w ↦ past_end docs c.loop-place.place
          (w.in_default.ensures.value
          ∙ ap (λ (l : List (Text × Kept)). slice_get l c.loop-place.place) c.loop-place.invariant.walk)
    ] in
    all_of_them c.args.deleted docs c.loop-place.place c.loop-place.ids c.loop-place.invariant.ids all
