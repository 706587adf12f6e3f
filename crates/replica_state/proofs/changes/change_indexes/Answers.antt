-- One index more is changed, from the last to the first.
use Rattle.std.proofs.Common.{◌≡◌, ◌∙◌, ◌+◌, ◌<◌, [], ◌∷◌, length, map, refl, sym, ap, subst, arith, vec_len, take_all}
use Rattle.std.proofs.Common.{length-append}
use Rattle.std.proofs.lemmas.List.{length-map, length-set}
use Rattle.std.specs.FinMap.Entries.{find, put}
use Rattle.conflicts.specs.Kept.{Kept}
use Rattle.conflicts.specs.State.{Text}
use Rattle.u1_base.specs.Ids.{id_cmp}
use Rattle.replica_state.specs.Keyed.{Docs, IsTable}
use Rattle.replica_state.specs.inner.Named.{HasRoom, name_of}
use Rattle.replica_state.specs.Prepared.{key_change}
use Rattle.replica_state.specs.declared.index.Index.{Index}
use Rattle.replica_state.specs.declared.prepared.KeyChange.{KeyChange}
use Rattle.replica_state.proofs.Changing.{begun}
use Rattle.replica_state.proofs.Lists.{back_done, front_kept, map_set_same, map_take_last, take_front}
use Rattle.replica_state.proofs.changes.change_indexes.Goals as goal

abbrev change_of : Docs → Text → Kept → Index → KeyChange
change_of docs id set x = key_change id (find id_cmp id docs) set x.exprs.texts

pub loop-change-init : goal.loop-change-init
loop-change-init c =
    let items = c.args.indexes.now.items in
    let f = change_of c.args.docs.now.pairs c.args.id.now c.args.set.now in
    let n : vec_len c.args.changes ≡ length items =
    omega (arith, ap length c.requires.changes, length-map items f, c.args.changes.ok.0) in
    record {
      within = omega (arith, n);
      changes = c.requires.changes ∙ ap (map f) (sym (take_all (vec_len c.args.changes) items (omega (arith, n))));
      tied = begun (IsTable c.args.docs.now.pairs) items (vec_len c.args.changes) n c.requires.tied;
      room = begun (HasRoom c.args.set.now) items (vec_len c.args.changes) n c.requires.room;
      done = λ k d low less. absurd (omega (arith, n));
      names = refl;
    }

pub change_index-requires-clause-tied : goal.change_index-requires-clause-tied
change_index-requires-clause-tied c =
    let m : vec_len c.loop-change.changes ≡ c.len.result + 1 =
    omega (
      arith,
      c.len.ensures,
      ap length c.in-Some.ensures.items,
      length-append c.pop.new.self.items (c.in-Some.change ∷ []),
      c.loop-change.changes.ok.0,
      c.pop.new.self.ok.0,
    ) in
    subst (IsTable c.args.docs.now.pairs) (sym c.index_mut-index.ensures.value)
    (c.loop-change.invariant.tied c.len.result c.index_mut-index.result.now (omega arith) (omega (arith, m)))

pub loop-change-preserved : goal.loop-change-preserved
loop-change-preserved c =
    let items = c.loop-change.indexes.items in
    let inv = c.loop-change.invariant in
    let f = change_of c.args.docs.now.pairs c.args.id.now c.args.set.now in
    let m : vec_len c.loop-change.changes ≡ c.len.result + 1 =
    omega (
      arith,
      c.len.ensures,
      ap length c.in-Some.ensures.items,
      length-append c.pop.new.self.items (c.in-Some.change ∷ []),
      c.loop-change.changes.ok.0,
      c.pop.new.self.ok.0,
    ) in
    let lt : c.len.result < length items = omega (arith, m, inv.within) in
    let i = c.len.result in
    let n = vec_len c.pop.new.self in
    let y = c.change_index.new.index in
    record {
      within = omega (arith, lt, c.len.ensures, length-set items i y);
      changes = (map_take_last f items i (vec_len c.loop-change.changes) c.index_mut-index.result.now
          c.loop-change.changes.items c.pop.new.self.items c.in-Some.change lt m c.index_mut-index.ensures.value
          inv.changes c.in-Some.ensures.items).0
          ∙ ap (map f) (sym (take_front items i n (vec_len c.loop-change.changes) y lt (sym c.len.ensures) m));
      tied = front_kept items i n (vec_len c.loop-change.changes) y lt (sym c.len.ensures) m
          (IsTable c.args.docs.now.pairs) inv.tied;
      room = front_kept items i n (vec_len c.loop-change.changes) y lt (sym c.len.ensures) m
          (HasRoom c.args.set.now) inv.room;
      done = back_done items i n (vec_len c.loop-change.changes) y lt (sym c.len.ensures) m
          (IsTable (put id_cmp c.args.id.now c.args.set.now c.args.docs.now.pairs))
          c.change_index.ensures.tied inv.done;
      names = map_set_same name_of items i c.index_mut-index.result.now y lt c.index_mut-index.ensures.value
          c.change_index.ensures.name ∙ inv.names;
    }

pub returns-clause-tied : goal.returns-clause-tied
returns-clause-tied c k d less =
    c.loop-change.invariant.done k d (omega (arith, c.in_default.ensures.cases)) less
