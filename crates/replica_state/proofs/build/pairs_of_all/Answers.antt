-- The next id is none of the earlier ones, so that its pairs are new.
use Rattle.std.proofs.Common.{◌∙◌, ◌≤◌, List, length, arith, ap}
use Rattle.std.specs.Prelude.{slice_get}
use Rattle.conflicts.specs.Kept.{Kept}
use Rattle.conflicts.specs.State.{Text}
use Rattle.index_tables.specs.Entries.{entries_of}
use Rattle.index_tables.proofs.Joined.{joined}
use Rattle.replica_state.proofs.Building.{next_fresh, next_table, past_end, whole}
use Rattle.replica_state.proofs.build.pairs_of_all.Goals as goal
use Rattle.replica_state.proofs.build.pairs_of_all.Goals.{else-loop-place-test, then-loop-place-test+in_default}

pub with-requires-clause-fresh : goal.with-requires-clause-fresh
with-requires-clause-fresh c =
    next_fresh c.args.exprs.now.texts c.args.docs.now.pairs c.args.docs.now.sorted c.loop-place.place c.in-Some.id.now
    c.in-Some.set.now
    (c.in-Some.ensures.value
    ∙ ap (λ (l : List (Text × Kept)). slice_get l c.loop-place.place) c.loop-place.invariant.walk)
    c.loop-place.pairs c.loop-place.invariant.table c.in_ok-keys.keys

pub loop-place-preserved : goal.loop-place-preserved
loop-place-preserved c = record {
  walk = c.in-Some.ensures.pairs ∙ c.loop-place.invariant.walk;
  table = next_table c.args.exprs.now.texts c.args.docs.now.pairs c.args.docs.now.sorted c.loop-place.place
      c.in-Some.id.now c.in-Some.set.now
      (c.in-Some.ensures.value
      ∙ ap (λ (l : List (Text × Kept)). slice_get l c.loop-place.place) c.loop-place.invariant.walk)
      c.loop-place.pairs c.loop-place.invariant.table c.in_ok-keys.keys c.in_ok-pairs.pairs
      c.in_ok-keys.ensures.value
      (joined c.loop-place.pairs c.in_ok-pairs.pairs (entries_of c.in-Some.id.now c.in_ok-keys.keys)
      c.in_ok-pairs.ensures);
}

pub returns : goal.returns
returns c =
    let docs = c.args.docs.now.pairs in
    let all : length docs ≤ c.loop-place.place = elim c.loop-place-test.branch [
      | else-loop-place-test w ↦ omega (arith, w.loop-place-test.false, c.length-place-end.ensures)
      | then-loop-place-test+in_default w ↦ past_end docs c.loop-place.place
          (w.in_default.ensures.value
          ∙ ap (λ (l : List (Text × Kept)). slice_get l c.loop-place.place) c.loop-place.invariant.walk)
    ] in
    whole c.args.exprs.now.texts docs c.loop-place.place c.loop-place.pairs all c.loop-place.invariant.table
