-- Sorted lists are told by what is found in them, and so are the lists of a state.
use Rattle.std.proofs.Common.{◌≡◌, T, List, ap}
use Rattle.std.specs.Cmp.Lexicographic.{nat_list_cmp_total}
use Rattle.std.specs.FinMap.Entries.{find, is_sorted, same_entries}
use Rattle.u1_base.specs.Ids.{id_cmp}
use Rattle.u1_base.proofs.SameIds.{id_tied}
use Rattle.conflicts.specs.State.{State, Text}
use Rattle.conflicts.specs.declared.moves.PosTable.TheVariants.{Known, Told}
use Rattle.replica_state.specs.Held.{Held, meaning, named}
use Rattle.replica_reads.specs.SameLists.{MeaningTellsLists}
use Rattle.replica_reads.proofs.SameKept.{kept_told}

same_pairs : {V : Type 0} (xs ys : List (Text × V)) → T (is_sorted id_cmp xs) → T (is_sorted id_cmp ys)
    → ((id : Text) → find id_cmp id xs ≡ find id_cmp id ys) → xs ≡ ys
same_pairs xs ys = same_entries id_cmp nat_list_cmp_total id_tied xs ys

module _ (x y : Held) (e : meaning x ≡ meaning y) where
  same_docs : x.collection.docs.pairs ≡ y.collection.docs.pairs
  same_docs = same_pairs x.collection.docs.pairs y.collection.docs.pairs x.collection.docs.sorted
      y.collection.docs.sorted
      (λ id. kept_told (find id_cmp id x.collection.docs.pairs) (find id_cmp id y.collection.docs.pairs)
      (ap (λ (s : State). s.document id) e))

  same_known : x.known.pairs ≡ y.known.pairs
  same_known = same_pairs x.known.pairs y.known.pairs x.known.sorted y.known.sorted
      (λ u. ap (λ (s : State). s.position Known u) e)

  same_told : x.told.pairs ≡ y.told.pairs
  same_told = same_pairs x.told.pairs y.told.pairs x.told.sorted y.told.sorted
      (λ u. ap (λ (s : State). s.position Told u) e)

  same_indexes : named x.collection.indexes ≡ named y.collection.indexes
  same_indexes = same_pairs (named x.collection.indexes) (named y.collection.indexes) x.collection.sorted
      y.collection.sorted (λ n. ap (λ (s : State). s.index n) e)

pub same_lists : MeaningTellsLists
same_lists x y e = λ i. record {
  name = (e i).name;
  uid = (e i).uid;
  docs = same_docs x y e i;
  log = (e i).log;
  known = same_known x y e i;
  told = same_told x y e i;
  indexes = same_indexes x y e i;
}
