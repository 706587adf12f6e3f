-- The change of one index more is made, and what a contract sees of the indexes stays.
use Rattle.std.proofs.Common.{◌∙◌, ◌+◌, ◌<◌, length, refl, arith, option_copied, Option}
use Rattle.std.proofs.lemmas.List.{length-set}
use Rattle.std.proofs.lemmas.List.Elements.{AllWithin-more_set}
use Rattle.conflicts.specs.Kept.{Kept}
use Rattle.conflicts.specs.State.{Text}
use Rattle.replica_state.specs.inner.Named.{HasRoom, bare}
use Rattle.replica_state.specs.Prepared.{key_change}
use Rattle.replica_state.specs.declared.index.Index.{Index}
use Rattle.replica_state.specs.declared.prepared.KeyChange.{KeyChange}
use Rattle.replica_state.proofs.Lists.{map_set_same, map_take_set}
use Rattle.replica_state.proofs.changes.prepare_indexes.Goals as goal

abbrev change_of : Text → Option Kept → Kept → Index → KeyChange
change_of id old new x = key_change id old new x.exprs.texts

pub returns-in_err-change-clause-same : goal.returns-in_err-change-clause-same
returns-in_err-change-clause-same c =
    map_set_same bare c.loop-at.indexes.items c.loop-at.at c.index_mut-index.result.now c.prepare_index.new.index
    (omega (arith, c.loop-at-test.true, c.len-in-loop-at.ensures, c.loop-at.indexes.ok.0))
    c.index_mut-index.ensures.value c.prepare_index.ensures.same
    ∙ c.loop-at.invariant.same

pub returns-in_err-push-clause-same : goal.returns-in_err-push-clause-same
returns-in_err-push-clause-same c =
    map_set_same bare c.loop-at.indexes.items c.loop-at.at c.index_mut-index.result.now c.prepare_index.new.index
    (omega (arith, c.loop-at-test.true, c.len-in-loop-at.ensures, c.loop-at.indexes.ok.0))
    c.index_mut-index.ensures.value c.prepare_index.ensures.same
    ∙ c.loop-at.invariant.same

pub loop-at-preserved : goal.loop-at-preserved
loop-at-preserved c =
    let items = c.loop-at.indexes.items in
    let y = c.prepare_index.new.index in
    let lt : c.loop-at.at < length items =
    omega (arith, c.loop-at-test.true, c.len-in-loop-at.ensures, c.loop-at.indexes.ok.0) in
    record {
      within = omega (arith, lt, length-set items c.loop-at.at y);
      same = map_set_same bare items c.loop-at.at c.index_mut-index.result.now y lt c.index_mut-index.ensures.value
          c.prepare_index.ensures.same ∙ c.loop-at.invariant.same;
      changes = map_take_set (change_of c.args.id.now (option_copied c.args.old) c.args.new.now) items c.loop-at.at
          (c.loop-at.at + 1) y c.loop-at.changes.items c.push.new.self.items c.in_ok-change.change lt refl
          c.loop-at.invariant.changes c.in_ok-push.ensures.items c.in_ok-change.ensures.change;
      room = AllWithin-more_set items c.loop-at.at y lt
          (HasRoom c.args.new.now) c.loop-at.invariant.room c.in_ok-change.ensures.room;
    }
