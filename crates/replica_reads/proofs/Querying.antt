-- What an index answers is what the definitions say: by the pairs of its table, and by the documents that this is of.
use Rattle.std.proofs.Common.{◌≡◌, ◌⊎◌, ℕ, Bool, true, false, cond, ◌&&◌, T, List, [], ◌∷◌, length, refl, sym, subst}
use Rattle.std.proofs.Common.{◌∙◌, ap, ap₂, inl, inr, Option, Result, Ok, Err}
use Rattle.std.specs.FinMap.Entries.{below_all, is_sorted}
use Rattle.std.specs.Prelude.{IfOk}
use Rattle.u1_base.specs.Ids.{id_cmp}
use Rattle.conflicts.specs.Kept.{Kept}
use Rattle.conflicts.specs.State.{Text}
use Rattle.doc_table.specs.Listed.{Listed}
use Rattle.index_tables.specs.Order.{Key}
use Rattle.query_range.specs.Answers.{answer, is_between, keys_of}
use Rattle.query_range.specs.Patterns.{ReadsPattern, meets}
use Rattle.query_range.specs.declared.fault.PatternFault.{PatternFault}
use Rattle.query_range.specs.declared.pattern.Part.{Part}
use Rattle.replica_state.specs.Keyed.{Docs, IsTable, keyed}
use Rattle.replica_state.specs.declared.index.Index.{Index}
use Rattle.replica_reads.specs.Answers.{answer_by, keys_by}
use Rattle.replica_reads.specs.Faults.{query_fault}
use Rattle.replica_reads.specs.Indexes.{for_pattern, for_range, looked_up, queried, ranged, searched}
use Rattle.replica_reads.specs.Patterns.{has_width, pattern_in}
use Rattle.replica_reads.specs.declared.fault.QueryFault.{QueryFault}
use Rattle.replica_reads.specs.declared.fault.QueryFault.TheVariants.{Memory, WrongWidth}
use Rattle.replica_reads.proofs.AnswersBy.{filter_by}
use Rattle.replica_reads.proofs.Globs.{read_fault, read_pattern}
use Rattle.replica_reads.proofs.KeysBy.{table_keys}

abbrev pub Answer : Type 0
Answer = Result (List Text) QueryFault

-- memory ran out, or it is the answer that is wanted
abbrev pub Answers : Answer → Answer → Type 0
Answers result wanted = (result ≡ Err Memory) ⊎ (result ≡ wanted)

-- documents with their keys are in the order of the documents
below_keyed : (exprs : List Text) (id : Text) (docs : Docs)
    → below_all id_cmp id (keyed exprs docs) ≡ below_all id_cmp id docs
below_keyed exprs id [] = refl
below_keyed exprs id (d ∷ docs) = ap₂ (λ (a b : Bool). a && b) refl (below_keyed exprs id docs)

sorted_keyed : (exprs : List Text) (docs : Docs) → is_sorted id_cmp (keyed exprs docs) ≡ is_sorted id_cmp docs
sorted_keyed exprs [] = refl
sorted_keyed exprs (d ∷ docs) = ap₂ (λ (a b : Bool). a && b) (below_keyed exprs d.0 docs) (sorted_keyed exprs docs)

module _ (index : Index) (docs : Listed Kept) (table : IsTable docs.pairs index) where
  in_order : T (is_sorted id_cmp (keyed index.exprs.texts docs.pairs))
  in_order = subst T (sym (sorted_keyed index.exprs.texts docs.pairs)) docs.sorted

  filtered : (wanted : Key → Bool) → answer wanted index.table.pairs
      ≡ answer_by wanted (keyed index.exprs.texts docs.pairs)
  filtered wanted = filter_by wanted (keyed index.exprs.texts docs.pairs) in_order index.table.pairs
      index.table.order table

  pub keys_are : {E : Type 0} (r : Result (List Key) E) → IfOk r (λ keys. keys ≡ keys_of index.table.pairs)
      → IfOk r (λ keys. keys ≡ keys_by (keyed index.exprs.texts docs.pairs))
  keys_are (Ok keys) is = is
      ∙ table_keys (keyed index.exprs.texts docs.pairs) in_order index.table.pairs index.table.order table
  keys_are (Err e) is = is

-- ---- a query

module _ (index : Index) (values : List (List ℕ)) (width : ℕ) (count : width ≡ length index.exprs.texts) where
  for_values : (parts : List Part) → ReadsPattern values width (Ok parts)
      → pattern_in values (length index.exprs.texts) ≡ Ok parts
  for_values parts read = ap (pattern_in values) (sym count) ∙ read_pattern values width parts read

  module _ (parts : List Part) (read : ReadsPattern values width (Ok parts)) (ids : List Text)
      (is : ids ≡ answer (meets parts) index.table.pairs) where
    pub query_pairs : Answers (Ok ids) (searched index values)
    query_pairs = inr (sym (ap
        (λ (r : Result (List Part) QueryFault). for_pattern r (λ wanted. answer wanted index.table.pairs))
        (for_values parts read) ∙ ap (λ (l : List Text). Ok l) (sym is)))

    pub query_documents : (docs : Listed Kept) → IsTable docs.pairs index
        → Answers (Ok ids) (queried index.exprs.texts docs.pairs values)
    query_documents docs table =
        inr (sym (ap (λ (r : Result (List Part) QueryFault). for_pattern r
        (λ wanted. answer_by wanted (keyed index.exprs.texts docs.pairs))) (for_values parts read)
        ∙ ap (λ (l : List Text). Ok l) (sym (is ∙ filtered index docs table (meets parts)))))

  module _ (fault : PatternFault) (read : ReadsPattern values width (Err fault)) where
    refused : (answers : (Key → Bool) → List Text)
        → Answers (Err (query_fault fault)) (for_pattern (pattern_in values (length index.exprs.texts)) answers)
    refused answers = by (read_fault values width fault read)
      where
        by : (query_fault fault ≡ Memory) ⊎ (pattern_in values width ≡ Err (query_fault fault))
            → Answers (Err (query_fault fault)) (for_pattern (pattern_in values (length index.exprs.texts)) answers)
        by (inl e) = inl (ap (λ (f : QueryFault). Err f) e)
        by (inr e) = inr (sym (ap (λ (n : ℕ). for_pattern (pattern_in values n) answers) (sym count)
            ∙ ap (λ (r : Result (List Part) QueryFault). for_pattern r answers) e))

    pub refused_pairs : Answers (Err (query_fault fault)) (searched index values)
    refused_pairs = refused (λ wanted. answer wanted index.table.pairs)

    pub refused_documents : (docs : Listed Kept)
        → Answers (Err (query_fault fault)) (queried index.exprs.texts docs.pairs values)
    refused_documents docs = refused (λ wanted. answer_by wanted (keyed index.exprs.texts docs.pairs))

-- ---- a range

module _ (index : Index) (start end : Option Key) where
  abbrev fits : Bool
  fits = has_width (length index.exprs.texts) start && has_width (length index.exprs.texts) end

  fitting : fits ≡ true → (answers : (Key → Bool) → List Text)
      → for_range (length index.exprs.texts) start end answers ≡ Ok (answers (is_between start end))
  fitting e answers = ap (λ (b : Bool). cond b (Ok (answers (is_between start end))) (Err WrongWidth)) e

  module _ (fit : fits ≡ true) (ids : List Text) (is : ids ≡ answer (is_between start end) index.table.pairs) where
    pub range_pairs : Answers (Ok ids) (looked_up index start end)
    range_pairs = inr (ap (λ (l : List Text). Ok l) is ∙ sym (fitting fit (λ wanted. answer wanted index.table.pairs)))

    pub range_documents : (docs : Listed Kept) → IsTable docs.pairs index
        → Answers (Ok ids) (ranged index.exprs.texts docs.pairs start end)
    range_documents docs table =
        inr (ap (λ (l : List Text). Ok l) (is ∙ filtered index docs table (is_between start end))
        ∙ sym (fitting fit (λ wanted. answer_by wanted (keyed index.exprs.texts docs.pairs))))

  module _ (unfit : fits ≡ false) where
    unfitting : (answers : (Key → Bool) → List Text)
        → Answers (Err WrongWidth) (for_range (length index.exprs.texts) start end answers)
    unfitting answers = inr
        (sym (ap (λ (b : Bool). cond b (Ok (answers (is_between start end))) (Err WrongWidth)) unfit))

    pub unfit_pairs : Answers (Err WrongWidth) (looked_up index start end)
    unfit_pairs = unfitting (λ wanted. answer wanted index.table.pairs)

    pub unfit_documents : (docs : Listed Kept)
        → Answers (Err WrongWidth) (ranged index.exprs.texts docs.pairs start end)
    unfit_documents docs = unfitting (λ wanted. answer_by wanted (keyed index.exprs.texts docs.pairs))
