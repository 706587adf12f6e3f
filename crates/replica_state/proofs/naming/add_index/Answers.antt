-- An index of the name stands at the place, or none does.
use Rattle.std.proofs.Common.{◌≡◌, ◌∙◌, ℕ, List, arith, set, sym, ap}
use Rattle.std.specs.Prelude.{slice_get}
use Rattle.std.specs.List.{insert}
use Rattle.replica_state.specs.inner.Named.{is_named, place_in}
use Rattle.replica_state.specs.declared.index.Index.{Index}
use Rattle.replica_state.proofs.Named.{inserted, place_within, replaced, stands}
use Rattle.replica_state.proofs.naming.add_index.Goals as goal

pub replace_at-requires : goal.replace_at-requires
replace_at-requires c =
    stands c.args.index.name c.args.indexes.now.items c.place_of-place.result
    (ap (λ (l : List Index). is_named c.args.index.name (slice_get l c.place_of-place.result))
    (sym c.as_slice-list.ensures.value) ∙ sym c.stands_at-there.ensures ∙ c.if-there.true)

pub insert_at-requires-clause-place : goal.insert_at-requires-clause-place
insert_at-requires-clause-place c =
    omega (
      arith,
      place_within c.args.index.name c.args.indexes.now.items,
      c.place_of-place.ensures
          ∙ ap (λ (l : List Index). place_in c.args.index.name l) c.as_slice-list.ensures.value,
    )

pub returns-then-there : goal.returns-then-there
returns-then-there c =
    let items = c.args.indexes.now.items in
    let at : c.place_of-place.result ≡ place_in c.args.index.name items = c.place_of-place.ensures
    ∙ ap (λ (l : List Index). place_in c.args.index.name l) c.as_slice-list.ensures.value in
    c.replace_at.ensures
    ∙ ap (λ (k : ℕ). set items k c.args.index) at
    ∙ replaced c.args.index items
    (ap (λ (k : ℕ). is_named c.args.index.name (slice_get items k)) (sym at)
    ∙ ap (λ (l : List Index). is_named c.args.index.name (slice_get l c.place_of-place.result))
    (sym c.as_slice-list.ensures.value) ∙ sym c.stands_at-there.ensures ∙ c.if-there.true)

pub returns-else-there : goal.returns-else-there
returns-else-there c =
    let items = c.args.indexes.now.items in
    let at : c.place_of-place.result ≡ place_in c.args.index.name items = c.place_of-place.ensures
    ∙ ap (λ (l : List Index). place_in c.args.index.name l) c.as_slice-list.ensures.value in
    c.insert_at.ensures
    ∙ ap (λ (k : ℕ). insert items k c.args.index) at
    ∙ inserted c.args.index items
    (ap (λ (k : ℕ). is_named c.args.index.name (slice_get items k)) (sym at)
    ∙ ap (λ (l : List Index). is_named c.args.index.name (slice_get l c.place_of-place.result))
    (sym c.as_slice-list.ensures.value) ∙ sym c.stands_at-there.ensures ∙ c.if-there.false)
