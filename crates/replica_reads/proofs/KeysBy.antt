-- The keys that are computed from the documents are those that are described.
use Rattle.std.proofs.Common.{◌≡◌, ℕ, Bool, true, false, cond, ◌||◌, T, List, [], ◌∷◌, refl, sym, subst, ◌∙◌, ap}
use Rattle.std.proofs.Common.{Option, Some}
use Rattle.std.proofs.lemmas.List.Folds.{list_any-append}
use Rattle.std.specs.FinMap.Entries.{find, is_sorted}
use Rattle.std.specs.List.{flat_map}
use Rattle.std.specs.Option.{unwrap_or}
use Rattle.u1_base.specs.Ids.{id_cmp, same_id}
use Rattle.u1_base.proofs.SameIds.{same_id-itself}
use Rattle.index_tables.specs.Documents.{Documents, IsTableOf, has_key, keys_at}
use Rattle.index_tables.specs.Order.{Entry, IsInOrder, Key, key_cmp, same_key}
use Rattle.index_tables.proofs.Sets.{same_sets}
use Rattle.index_tables.proofs.TotalOrders.{key_same, key_total}
use Rattle.query_range.specs.Answers.{AreKeysBy, keys_of}
use Rattle.query_range.proofs.ByDocuments.{keys_by as keys_are_by}
use Rattle.query_range.proofs.Laws.{keys_of_is, same_tests}
use Rattle.replica_reads.specs.Answers.{keys_by}
use Rattle.replica_reads.proofs.AnswersBy.{behind, keys_of_first, later_sorted}
use Rattle.replica_reads.proofs.LeastKeys.{or_later}
use Rattle.replica_reads.proofs.SortedOnce.{any-sorted, sorted_rises}

abbrev all_keys : Documents → List Key
all_keys documents = flat_map (λ d. d.1) documents

or_first : (a b : Bool) → a ≡ true → (a || b) ≡ true
or_first true b h = refl
or_first false b h = absurd (cc)

-- a key of all is one of a document
of_document : (documents : Documents) → T (is_sorted id_cmp documents) → (key : Key)
    → has_key (all_keys documents) key ≡ true → (id : List ℕ) × (has_key (keys_at documents id) key ≡ true)
of_document [] sorted key there = absurd (cc)
of_document (d ∷ documents) sorted key there =
    elim (has_key d.1 key) as (λ (b : Bool). has_key d.1 key ≡ b → (b || has_key (all_keys documents) key) ≡ true
    → (id : List ℕ) × (has_key (keys_at (d ∷ documents) id) key ≡ true)) [
      | true ↦ λ is _. (
        d.0,
        subst (λ (keys : List Key). has_key keys key ≡ true)
            (sym (keys_of_first d documents d.0 (same_id-itself d.0))) is,
      )
      | false ↦ λ _ h.
          let rest = of_document documents (later_sorted d documents sorted) key h in (
            rest.0,
            behind d documents sorted rest.0 (has_key (keys_at (d ∷ documents) rest.0) key ≡ true)
                (λ _ none. absurd (nothing
                (ap (λ (o : Option (List Key)). has_key (unwrap_or o []) key) (sym none) ∙ rest.1)))
                (λ e. subst (λ (keys : List Key). has_key keys key ≡ true) (sym e) rest.1),
          )
    ] refl (sym (list_any-append (same_key key) d.1 (all_keys documents)) ∙ there)
  where
    nothing : false ≡ true → ⊥
    nothing e = absurd (cc)

-- and the other way round
in_all : (documents : Documents) (id : List ℕ) (key : Key) → has_key (keys_at documents id) key ≡ true
    → has_key (all_keys documents) key ≡ true
in_all [] id key there = absurd (cc)
in_all (d ∷ documents) id key there = list_any-append (same_key key) d.1 (all_keys documents)
    ∙ elim (same_id id d.0) as (λ (b : Bool). has_key (unwrap_or (cond b (Some d.1) (find id_cmp id documents)) []) key
    ≡ true → (has_key d.1 key || has_key (all_keys documents) key) ≡ true) [
      | true ↦ λ h. or_first (has_key d.1 key) (has_key (all_keys documents) key) h
      | false ↦ λ h. or_later (has_key d.1 key) (has_key (all_keys documents) key) (in_all documents id key h)
    ] there

module _ (documents : Documents) (sorted : T (is_sorted id_cmp documents)) where
  pub are_keys : AreKeysBy documents (keys_by documents)
  are_keys = record {
    all = λ id key there. any-sorted key_cmp key_total key (all_keys documents) ∙ in_all documents id key there;
    no_others = λ key there. of_document documents sorted key
        (sym (any-sorted key_cmp key_total key (all_keys documents)) ∙ there);
    order = sorted_rises key_cmp key_total (all_keys documents);
  }

  pub one_keys : (keys : List Key) → AreKeysBy documents keys → keys ≡ keys_by documents
  one_keys keys k = same_sets key_cmp key_total key_same keys (keys_by documents) k.order are_keys.order
      (λ key. same_tests (has_key keys key) (has_key (keys_by documents) key)
      (λ there. let of = k.no_others key there in are_keys.all of.0 key of.1)
      (λ there. let of = are_keys.no_others key there in k.all of.0 key of.1))

  -- the keys of a table are those of the documents that it is of
  pub table_keys : (entries : List Entry) → IsInOrder entries → IsTableOf documents entries
      → keys_of entries ≡ keys_by documents
  table_keys entries order table = one_keys (keys_of entries)
      (keys_are_by documents entries table (keys_of entries) (keys_of_is entries order))
