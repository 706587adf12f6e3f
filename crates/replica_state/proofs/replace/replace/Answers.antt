-- What the state is ready for is what each kind of replacement needs.
use Rattle.std.proofs.Common.{◌∙◌, ◌-◌, List, arith, length, map, not, sym, ap, subst, vec_len, ◌≤◌}
use Rattle.std.specs.Prelude.{vec_capacity}
use Rattle.std.specs.FinMap.Entries.{find}
use Rattle.std.proofs.lemmas.List.Elements.{All-filter}
use Rattle.u1_base.specs.Ids.{id_cmp, same_id}
use Rattle.replica_state.specs.Held.{Heading}
use Rattle.replica_state.specs.Keyed.{AreTables, IsTable, keys_of_kept}
use Rattle.replica_state.specs.Named.{heading}
use Rattle.replica_state.specs.inner.Named.{names_of}
use Rattle.replica_state.specs.Prepared.{Takes, key_change, names_with}
use Rattle.replica_state.specs.declared.index.Index.{Index}
use Rattle.replica_state.specs.declared.prepared.Replacement.{Replacement}
use Rattle.replica_state.proofs.Lists.{All-unmap, map-map}
use Rattle.replica_state.proofs.Named.{all_put, names_put, names_without}
use Rattle.replica_state.proofs.replace.replace.Goals as goal

pub put_document-requires-clause-changes : goal.put_document-requires-clause-changes
put_document-requires-clause-changes c =
    let items = c.args.indexes.now.items in
    let ready = subst (λ (r : Replacement). Takes c.args.docs.now (map heading items)
    (vec_capacity c.args.indexes.now - vec_len c.args.indexes.now) r) c.in-Document.is c.requires.ready in
    ready.changed ∙ map-map
    (λ (x : Heading). key_change c.in-Document.id
    (find id_cmp c.in-Document.id c.args.docs.now.pairs) c.in-Document.set x.exprs) heading items

pub put_document-requires-clause-room : goal.put_document-requires-clause-room
put_document-requires-clause-room c =
    let items = c.args.indexes.now.items in
    let ready = subst (λ (r : Replacement). Takes c.args.docs.now (map heading items)
    (vec_capacity c.args.indexes.now - vec_len c.args.indexes.now) r) c.in-Document.is c.requires.ready in
    All-unmap heading (λ (x : Heading). length (keys_of_kept x.exprs c.in-Document.set) ≤ x.room) items ready.room

pub add_index-requires : goal.add_index-requires
add_index-requires c =
    let items = c.args.indexes.now.items in
    let ready = subst (λ (r : Replacement). Takes c.args.docs.now (map heading items)
    (vec_capacity c.args.indexes.now - vec_len c.args.indexes.now) r) c.in-NewIndex.is c.requires.ready in
    omega (arith, ready.0)

pub returns-in-NewIndex-clause-tied : goal.returns-in-NewIndex-clause-tied
returns-in-NewIndex-clause-tied c =
    let items = c.args.indexes.now.items in
    let ready = subst (λ (r : Replacement). Takes c.args.docs.now (map heading items)
    (vec_capacity c.args.indexes.now - vec_len c.args.indexes.now) r) c.in-NewIndex.is c.requires.ready in
    subst (λ (l : List Index). AreTables c.args.docs.now.pairs l) (sym c.add_index.ensures)
    (all_put (IsTable c.args.docs.now.pairs) c.in-NewIndex.index items ready.1 c.requires.tied)

pub returns-in-NewIndex-clause-names : goal.returns-in-NewIndex-clause-names
returns-in-NewIndex-clause-names c =
    ap names_of c.add_index.ensures
    ∙ names_put c.in-NewIndex.index c.args.indexes.now.items
    ∙ ap (λ (r : Replacement). names_with r (names_of c.args.indexes.now.items)) (sym c.in-NewIndex.is)

pub returns-in-NoIndex-clause-tied : goal.returns-in-NoIndex-clause-tied
returns-in-NoIndex-clause-tied c =
    subst (λ (l : List Index). AreTables c.args.docs.now.pairs l) (sym c.drop_index.ensures)
    (All-filter (λ (x : Index). not (same_id c.in-NoIndex.name x.name))
    (IsTable c.args.docs.now.pairs) c.args.indexes.now.items c.requires.tied)

pub returns-in-NoIndex-clause-names : goal.returns-in-NoIndex-clause-names
returns-in-NoIndex-clause-names c =
    ap names_of c.drop_index.ensures
    ∙ names_without c.in-NoIndex.name c.args.indexes.now.items
    ∙ ap (λ (r : Replacement). names_with r (names_of c.args.indexes.now.items)) (sym c.in-NoIndex.is)
