-- The change of one index where a document is put.
use Rattle.std.proofs.Common.{◌≡◌, ℕ, List, length, sym, subst, ◌∙◌, ap}
use Rattle.std.proofs.lemmas.List.Elements.{AllWithin-from_all}
use Rattle.std.specs.FinMap.Entries.{find, put}
use Rattle.std.specs.List.{All, AllWithin}
use Rattle.conflicts.specs.Kept.{Kept}
use Rattle.conflicts.specs.State.{Text}
use Rattle.index_tables.specs.Documents.{Documents, IsTableOf, dropped, keys_at}
use Rattle.index_tables.specs.Entries.{AreNew, HaveWidth, HoldsBoth, entries_of, not_among}
use Rattle.index_tables.specs.Order.{Entry, Key}
use Rattle.index_tables.proofs.Documents.{new_after, put_table}
use Rattle.u1_base.specs.Ids.{id_cmp}
use Rattle.replica_state.specs.Keyed.{Docs, IsTable, keyed, keys_of_kept}
use Rattle.replica_state.specs.Prepared.{key_change}
use Rattle.replica_state.specs.declared.index.Index.{Index}
use Rattle.replica_state.specs.declared.prepared.KeyChange.{KeyChange}
use Rattle.replica_state.proofs.DocumentKeys.{keys_at_keyed, put_keyed, table_wide}

module _ (docs : Docs) (id : Text) (kept : Kept) (x : Index) (gone : List Key) (change : KeyChange) (left : List Entry)
    (t : IsTable docs x) (is : change ≡ key_change id (find id_cmp id docs) kept x.exprs.texts)
    (gone_is : gone ≡ change.gone) (left_is : left ≡ not_among (entries_of id gone) x.table.pairs) where
  abbrev documents : Documents
  documents = keyed x.exprs.texts docs

  all_gone : gone ≡ keys_at documents id
  all_gone = gone_is ∙ ap (λ (c : KeyChange). c.gone) is ∙ sym (keys_at_keyed x.exprs.texts docs id)

  all_dropped : left ≡ dropped documents id x.table.pairs
  all_dropped = left_is ∙ ap (λ (keys : List Key). not_among (entries_of id keys) x.table.pairs) all_gone

  pairs_are : change.pairs ≡ entries_of id (keys_of_kept x.exprs.texts kept)
  pairs_are = ap (λ (c : KeyChange). c.pairs) is

  pub change_fresh : AreNew left change.pairs
  change_fresh =
      subst (λ (es : List Entry). AreNew es change.pairs) (sym all_dropped)
      (subst (λ (ps : List Entry). AreNew (dropped documents id x.table.pairs) ps) (sym pairs_are)
      (new_after documents x.table.pairs id t (keys_of_kept x.exprs.texts kept)))

  pub change_table : (new : List Entry) → HoldsBoth left change.pairs new
      → IsTableOf (keyed x.exprs.texts (put id_cmp id kept docs)) new
  change_table new both =
      subst (λ (ds : Documents). IsTableOf ds new) (put_keyed x.exprs.texts docs id kept)
      (put_table documents x.table.pairs id t (keys_of_kept x.exprs.texts kept) new
      (subst (λ (es : List Entry). HoldsBoth es (entries_of id (keys_of_kept x.exprs.texts kept)) new) all_dropped
      (subst (λ (ps : List Entry). HoldsBoth left ps new) pairs_are both)))

  pub change_wide : (new : List Entry) → HoldsBoth left change.pairs new → HaveWidth (length x.exprs.texts) new
  change_wide new both = table_wide x.exprs.texts (put id_cmp id kept docs) new x.exprs.spelled (change_table new both)

pub begun : {X : Type 0} (P : X → Type 0) (xs : List X) (n : ℕ) → n ≡ length xs → All P xs → AllWithin P xs 0 n
begun P xs n e all = subst (λ (m : ℕ). AllWithin P xs 0 m) (sym e) (AllWithin-from_all P xs all)
