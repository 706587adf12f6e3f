-- The changes are those of the set, over what stands at the id.
use Rattle.std.proofs.Common.{◌∙◌, Option, length, map, sym, ap, ◌≤◌}
use Rattle.std.specs.FinMap.Entries.{find}
use Rattle.std.proofs.lemmas.List.Elements.{All-map}
use Rattle.conflicts.specs.Kept.{Kept}
use Rattle.conflicts.specs.State.{Text}
use Rattle.u1_base.specs.Ids.{id_cmp}
use Rattle.replica_state.specs.Held.{Heading}
use Rattle.replica_state.specs.Keyed.{keys_of_kept}
use Rattle.replica_state.specs.Named.{heading}
use Rattle.replica_state.specs.Prepared.{key_change}
use Rattle.replica_state.specs.declared.index.Index.{Index}
use Rattle.replica_state.proofs.Lists.{map-map}
use Rattle.replica_state.proofs.replace.new_set.Goals as goal

pub returns-clause-ready : goal.returns-clause-ready
returns-clause-ready c =
    let items = c.prepare_indexes.new.indexes.items in
    let docs = c.args.docs.now.pairs in
    let set = c.args.set in
    record {
      place = c.requires.place;
      changed =
          c.in_ok-changes.ensures.changes
          ∙ ap (λ (o : Option Kept). map (λ (x : Index). key_change c.args.doc.now o set x.exprs.texts) items)
          c.requires.old
          ∙ ap (λ (i : Text). map (λ (x : Index). key_change i (find id_cmp i docs) set x.exprs.texts) items)
          (sym c.in_ok-id.ensures)
          ∙ sym (map-map (λ (x : Heading). key_change c.in_ok-id.id (find id_cmp c.in_ok-id.id docs) set x.exprs)
          heading items);
      room = All-map (λ (x : Heading). length (keys_of_kept x.exprs set) ≤ x.room) heading items
          c.in_ok-changes.ensures.room;
    }
