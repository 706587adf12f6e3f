-- What the pairs of a lent index give is what the documents say.
use Rattle.std.proofs.Common.{◌≡◌, Bool, ◌&&◌, T, List, [], ◌∷◌, length, map, refl, sym, subst, ◌∙◌, ap, ap₂, Option}
use Rattle.std.proofs.Common.{Some, None}
use Rattle.std.specs.FinMap.Entries.{below_all, is_sorted}
use Rattle.std.specs.Option.{option_map}
use Rattle.std.specs.Ordering.{is_lt}
use Rattle.u1_base.specs.Ids.{id_cmp}
use Rattle.conflicts.specs.Kept.{Kept}
use Rattle.conflicts.specs.State.{Text}
use Rattle.doc_table.specs.Listed.{Listed}
use Rattle.index_tables.specs.Order.{Key}
use Rattle.query_range.specs.Answers.{answer, keys_of}
use Rattle.replica_state.specs.Held.{Held, meaning}
use Rattle.replica_state.specs.Keyed.{IsTable, keyed, keys_of_kept}
use Rattle.replica_state.specs.Lent.{IsLent}
use Rattle.replica_state.specs.declared.index.Index.{Index}
use Rattle.replica_reads.specs.Answers.{answer_by, keys_by}
use Rattle.replica_reads.specs.Indexes.{for_pattern, for_range, looked_up, queried, ranged, searched}
use Rattle.replica_reads.specs.Patterns.{pattern_in}
use Rattle.replica_reads.proofs.AnswersBy.{filter_by}
use Rattle.replica_reads.proofs.KeysBy.{table_keys}
use Rattle.replica_reads.specs.IndexAnswers.{AnswersOfLists}

-- ---- an order is one of ids, whatever stands at them

module _ {V W : Type 0} (f : V → W) where
  abbrev mapped : List (Text × V) → List (Text × W)
  mapped pairs = map (λ p. (p.0, f p.1)) pairs

  below_mapped : (id : Text) (pairs : List (Text × V))
      → below_all id_cmp id (mapped pairs) ≡ below_all id_cmp id pairs
  below_mapped id [] = refl
  below_mapped id (p ∷ pairs) = ap (λ (b : Bool). is_lt (id_cmp id p.0) && b) (below_mapped id pairs)

  sorted_mapped : (pairs : List (Text × V)) → is_sorted id_cmp (mapped pairs) ≡ is_sorted id_cmp pairs
  sorted_mapped [] = refl
  sorted_mapped (p ∷ pairs) = ap₂ (λ (a b : Bool). a && b) (below_mapped p.0 pairs) (sorted_mapped pairs)

-- ---- an index whose table is of some documents

module _ (docs : Listed Kept) (index : Index) (table : IsTable docs.pairs index) where
  in_order : T (is_sorted id_cmp (keyed index.exprs.texts docs.pairs))
  in_order = subst T (sym (sorted_mapped (keys_of_kept index.exprs.texts) docs.pairs)) docs.sorted

  filtered : (wanted : Key → Bool) → answer wanted index.table.pairs
      ≡ answer_by wanted (keyed index.exprs.texts docs.pairs)
  filtered wanted = filter_by wanted (keyed index.exprs.texts docs.pairs) in_order index.table.pairs
      index.table.order table

  query_is : (values : List Text) → searched index values ≡ queried index.exprs.texts docs.pairs values
  query_is values =
      λ i. for_pattern (pattern_in values (length index.exprs.texts)) (λ wanted. filtered wanted i)

  range_is : (start end : Option Key) → looked_up index start end ≡ ranged index.exprs.texts docs.pairs start end
  range_is start end = λ i. for_range (length index.exprs.texts) start end (λ wanted. filtered wanted i)

  keys_is : keys_of index.table.pairs ≡ keys_by (keyed index.exprs.texts docs.pairs)
  keys_is = table_keys (keyed index.exprs.texts docs.pairs) in_order index.table.pairs index.table.order table

-- ---- the index that is lent, if there is one

module _ {A : Type 0} (s : Held) (name : Text) (by_pairs : Index → A) (by_documents : List Text → A)
    (same : (index : Index) → IsTable s.collection.docs.pairs index → by_pairs index ≡ by_documents index.exprs.texts)
  where
    of_lent : (lent : Option Index) → IsLent s name lent
        → option_map by_pairs lent ≡ option_map by_documents ((meaning s).index name)
    of_lent None none = sym (ap (option_map by_documents) none)
    of_lent (Some index) lent = ap (λ (a : A). Some a) (same index lent.1)
        ∙ sym (ap (option_map by_documents) lent.0)

pub lent_answers : AnswersOfLists
lent_answers = record {
  query = λ s name lent values. of_lent s name (λ index. searched index values)
      (λ exprs. queried exprs s.collection.docs.pairs values)
      (λ index table. query_is s.collection.docs index table values) lent;
  range = λ s name lent start end. of_lent s name (λ index. looked_up index start end)
      (λ exprs. ranged exprs s.collection.docs.pairs start end)
      (λ index table. range_is s.collection.docs index table start end) lent;
  keys = λ s name lent. of_lent s name (λ index. keys_of index.table.pairs)
      (λ exprs. keys_by (keyed exprs s.collection.docs.pairs))
      (λ index table. keys_is s.collection.docs index table) lent;
}
