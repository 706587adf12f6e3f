-- The answer that is computed from the documents is the one that is described.
use Rattle.std.proofs.Common.{◌≡◌, ℕ, ◌<◌, zero, suc, Bool, true, false, cond, ◌||◌, T, List, [], ◌∷◌, length, map}
use Rattle.std.proofs.Common.{get_or, refl, sym, subst, ◌∙◌, ap, arith, Ordering, Less, Equal, Greater, Option, Some}
use Rattle.std.proofs.Common.{None}
use Rattle.std.proofs.lemmas.List.{get_or-map, length-map}
use Rattle.std.specs.Bool.{passes}
use Rattle.std.specs.FinMap.Entries.{below_all, find, is_sorted}
use Rattle.std.specs.List.{cons_option, filter_map, list_any}
use Rattle.std.specs.Option.{option_map, unwrap_or}
use Rattle.std.specs.Ordering.{is_eq, is_lt}
use Rattle.u1_base.specs.Ids.{id_cmp, same_id}
use Rattle.u1_base.proofs.Booleans.{first, second}
use Rattle.u1_base.proofs.SameIds.{same_id_is, same_id-itself}
use Rattle.index_tables.specs.Documents.{Documents, IsTableOf, keys_at}
use Rattle.index_tables.specs.Entries.{has, same}
use Rattle.index_tables.specs.Order.{Entry, IsInOrder, Key, entry_cmp}
use Rattle.index_tables.proofs.Laws.{same_is, same_self}
use Rattle.index_tables.proofs.TotalOrders.{entry_total}
use Rattle.query_range.specs.Answers.{IsAnswerBy, IsLeastOf, answer}
use Rattle.query_range.proofs.ByDocuments.{answer_by as answer_is_by, one_answer}
use Rattle.query_range.proofs.Laws.{answer_is, same_tests}
use Rattle.replica_reads.specs.Answers.{answer_by, least_entry, least_of, sorted_once}
use Rattle.replica_reads.proofs.LeastKeys.{least_told, or_later, some_wanted, wanted_least}
use Rattle.replica_reads.proofs.SortedOnce.{any-sorted, is_true, sorted_rises}

-- ---- documents in the order of their ids

pub is_below : (r : Ordering) → is_lt r ≡ true → r ≡ Less
is_below Less h = refl
is_below Equal h = absurd (cc)
is_below Greater h = absurd (cc)

pub none_above : {V : Type 0} (id : List ℕ) (ds : List (List ℕ × V)) → below_all id_cmp id ds ≡ true
    → find id_cmp id ds ≡ None
none_above id [] h = refl
none_above id (d ∷ ds) h =
    ap (λ (r : Ordering). cond (is_eq r) (Some d.1) (find id_cmp id ds))
    (is_below (id_cmp id d.0) (first (is_lt (id_cmp id d.0)) (below_all id_cmp id ds) h))
    ∙ none_above id ds (second (is_lt (id_cmp id d.0)) (below_all id_cmp id ds) h)

module _ (d : List ℕ × List Key) (documents : Documents) (sorted : T (is_sorted id_cmp (d ∷ documents))) where
  pub later_sorted : T (is_sorted id_cmp documents)
  later_sorted = passes (is_sorted id_cmp documents)
      (second (below_all id_cmp d.0 documents) (is_sorted id_cmp documents) (is_true _ sorted))

  -- what stands behind the first document has another id
  pub behind : (id : List ℕ) (P : Type 0) → (same_id id d.0 ≡ true → find id_cmp id documents ≡ None → P)
      → (keys_at (d ∷ documents) id ≡ keys_at documents id → P) → P
  behind id P one other = elim (same_id id d.0) as (λ (b : Bool). same_id id d.0 ≡ b → P) [
    | true ↦ λ e. one e (ap (λ (i : List ℕ). find id_cmp i documents) (same_id_is id d.0 e)
        ∙ none_above d.0 documents
        (first (below_all id_cmp d.0 documents) (is_sorted id_cmp documents) (is_true _ sorted)))
    | false ↦ λ e. other (ap (λ (b : Bool). unwrap_or (cond b (Some d.1) (find id_cmp id documents)) []) e)
  ] refl

pub keys_of_first : (d : List ℕ × List Key) (documents : Documents) (id : List ℕ) → same_id id d.0 ≡ true
    → keys_at (d ∷ documents) id ≡ d.1
keys_of_first d documents id e = ap (λ (b : Bool). unwrap_or (cond b (Some d.1) (find id_cmp id documents)) []) e

-- ---- documents under their least wanted keys

module _ (wanted : Key → Bool) where
  abbrev entries_by : Documents → List Entry
  entries_by documents = filter_map (least_entry wanted) documents

  -- what is known of an entry behind the first document holds with it
  later : (d : List ℕ × List Key) (documents : Documents) → T (is_sorted id_cmp (d ∷ documents)) → (p : Entry)
      → least_of wanted (keys_at documents p.1) ≡ Some p.0 → least_of wanted (keys_at (d ∷ documents) p.1) ≡ Some p.0
  later d documents sorted p rest =
      behind d documents sorted p.1 (least_of wanted (keys_at (d ∷ documents) p.1) ≡ Some p.0)
      (λ _ none. absurd (nothing (ap (λ (o : Option (List Key)). least_of wanted (unwrap_or o [])) (sym none) ∙ rest)))
      (λ e. ap (least_of wanted) e ∙ rest)
    where
      nothing : None ≡ Some p.0 → ⊥
      nothing e = absurd (cc)

  told : (documents : Documents) → T (is_sorted id_cmp documents) → (p : Entry) → has (entries_by documents) p ≡ true
      → least_of wanted (keys_at documents p.1) ≡ Some p.0
  told [] sorted p there = absurd (cc)
  told (d ∷ documents) sorted p there = elim (least_of wanted d.1) as
      (λ (o : Option Key). least_of wanted d.1 ≡ o
      → has (cons_option (option_map (λ key. (key, d.0)) o) (entries_by documents)) p ≡ true
      → least_of wanted (keys_at (d ∷ documents) p.1) ≡ Some p.0) [
        | None ↦ λ e h. later d documents sorted p (told documents (later_sorted d documents sorted) p h)
        | Some key ↦ λ e h. elim (same p (key, d.0)) as
            (λ (b : Bool). same p (key, d.0) ≡ b → (b || has (entries_by documents) p) ≡ true
            → least_of wanted (keys_at (d ∷ documents) p.1) ≡ Some p.0) [
              | true ↦ λ is _. subst (λ (q : Entry). least_of wanted (keys_at (d ∷ documents) q.1) ≡ Some q.0)
                  (sym (same_is p (key, d.0) is))
                  (ap (least_of wanted) (keys_of_first d documents d.0 (same_id-itself d.0)) ∙ e)
              | false ↦ λ _ k. later d documents sorted p (told documents (later_sorted d documents sorted) p k)
            ] refl h
      ] refl there

  stands : (documents : Documents) (id : List ℕ) (key : Key) → least_of wanted (keys_at documents id) ≡ Some key
      → has (entries_by documents) (key, id) ≡ true
  stands [] id key e = absurd (cc)
  stands (d ∷ documents) id key e = elim (same_id id d.0) as
      (λ (b : Bool). same_id id d.0 ≡ b → least_of wanted (unwrap_or (cond b (Some d.1) (find id_cmp id documents)) [])
      ≡ Some key → has (entries_by (d ∷ documents)) (key, id) ≡ true) [
        | true ↦ λ is h.
            subst (λ (o : Option Key). has (cons_option (option_map (λ k. (k, d.0)) o) (entries_by documents)) (key, id)
            ≡ true) (sym h)
            (ap (λ (b : Bool). b || has (entries_by documents) (key, id))
            (subst (λ (i : List ℕ). same (key, id) (key, i) ≡ true) (same_id_is id d.0 is) (same_self (key, id))))
        | false ↦ λ is h. past (least_of wanted d.1) (stands documents id key h)
      ] refl e
    where
      past : (o : Option Key) → has (entries_by documents) (key, id) ≡ true
          → has (cons_option (option_map (λ k. (k, d.0)) o) (entries_by documents)) (key, id) ≡ true
      past None h = h
      past (Some k) h = or_later (same (key, id) (k, d.0)) (has (entries_by documents) (key, id)) h

  module _ (documents : Documents) (sorted : T (is_sorted id_cmp documents)) where
    abbrev found : List Entry
    found = sorted_once entry_cmp (entries_by documents)

    told_found : (p : Entry) → has found p ≡ true → least_of wanted (keys_at documents p.1) ≡ Some p.0
    told_found p there = told documents sorted p
        (sym (any-sorted entry_cmp entry_total p (entries_by documents)) ∙ there)

    -- an id of some entries is that of one of them
    of_entry : (es : List Entry) (id : List ℕ) → list_any (same_id id) (map (λ e. e.1) es) ≡ true → (key : Key)
        × (has es (key, id) ≡ true)
    of_entry [] id h = absurd (cc)
    of_entry (e ∷ es) id h = elim (same_id id e.1) as
        (λ (b : Bool). same_id id e.1 ≡ b → (b || list_any (same_id id) (map (λ p. p.1) es)) ≡ true → (key : Key)
        × (has (e ∷ es) (key, id) ≡ true)) [
          | true ↦ λ is _. (
            e.0,
            ap (λ (b : Bool). b || has es (e.0, id))
                (subst (λ (i : List ℕ). same (e.0, i) e ≡ true) (sym (same_id_is id e.1 is)) (same_self e)),
          )
          | false ↦ λ _ k. let rest = of_entry es id k
              in (rest.0, or_later (same (rest.0, id) e) (has es (rest.0, id)) rest.1)
        ] refl h

    to_entry : (es : List Entry) (id : List ℕ) (key : Key) → has es (key, id) ≡ true
        → list_any (same_id id) (map (λ e. e.1) es) ≡ true
    to_entry [] id key h = absurd (cc)
    to_entry (e ∷ es) id key h = elim (same (key, id) e) as
        (λ (b : Bool). same (key, id) e ≡ b → (b || has es (key, id)) ≡ true
        → (same_id id e.1 || list_any (same_id id) (map (λ p. p.1) es)) ≡ true) [
          | true ↦ λ is _. ap (λ (b : Bool). b || list_any (same_id id) (map (λ p. p.1) es))
              (subst (λ (p : Entry). same_id id p.1 ≡ true) (same_is (key, id) e is) (same_id-itself id))
          | false ↦ λ _ k. or_later (same_id id e.1) (list_any (same_id id) (map (λ p. p.1) es)) (to_entry es id key k)
        ] refl h

    has_wanted : (id : List ℕ) → list_any (same_id id) (map (λ e. e.1) found) ≡ true
        → list_any wanted (keys_at documents id) ≡ true
    has_wanted id h =
        let entry = of_entry found id h in
        some_wanted wanted (keys_at documents id) entry.0 (told_found (entry.0, id) entry.1)

    is_found : (id : List ℕ) → list_any wanted (keys_at documents id) ≡ true
        → list_any (same_id id) (map (λ e. e.1) found) ≡ true
    is_found id h =
        let key = wanted_least wanted (keys_at documents id) h in
        to_entry found id key.0 (any-sorted entry_cmp entry_total (key.0, id) (entries_by documents)
        ∙ stands documents id key.0 key.1)

    at_place : (es : List Entry) (k : ℕ) (d : Entry) → k < length es → has es (get_or es k d) ≡ true
    at_place [] k d lt = absurd (omega arith)
    at_place (e ∷ es) zero d lt = ap (λ (b : Bool). b || has es e) (same_self e)
    at_place (e ∷ es) (suc k) d lt = or_later (same (get_or es k d) e) (has es (get_or es k d))
        (at_place es k d (omega arith))

    same_some : (a b : Key) → Some a ≡ Some b → a ≡ b
    same_some a b e = ap (λ (o : Option Key). unwrap_or o a) e

    -- the least wanted key of the document at a place is that of its entry
    key_at : (k : ℕ) (d : Entry) (key : Key) → k < length found
        → IsLeastOf wanted (keys_at documents (get_or found k d).1) key → (key, (get_or found k d).1) ≡ get_or found k d
    key_at k d key lt l =
        let is = same_some key (get_or found k d).0
        (sym (least_told wanted (keys_at documents (get_or found k d).1) key l)
        ∙ told_found (get_or found k d) (at_place found k d lt)) in
        ap (λ (x : Key). (x, (get_or found k d).1)) is

    pub is_answer : IsAnswerBy wanted documents (answer_by wanted documents)
    is_answer = record {
      members = λ id. same_tests (list_any (same_id id) (map (λ e. e.1) found))
          (list_any wanted (keys_at documents id)) (has_wanted id) (is_found id);
      order = λ i j d lt le key other l m.
          let long : length (map (λ (e : Entry). e.1) found) ≡ length found = length-map found (λ (e : Entry). e.1) in
          let blank : Entry = ([], d) in
          let one : get_or (map (λ (e : Entry). e.1) found) i d ≡ (get_or found i blank).1 =
          get_or-map (λ (e : Entry). e.1) found i blank d (omega (arith, long)) in
          let two : get_or (map (λ (e : Entry). e.1) found) j d ≡ (get_or found j blank).1 =
          get_or-map (λ (e : Entry). e.1) found j blank d (omega (arith, long)) in
          subst (λ (id : List ℕ). entry_cmp (key, id) (other, get_or (map (λ (e : Entry). e.1) found) j d) ≡ Less)
          (sym one)
          (subst (λ (id : List ℕ). entry_cmp (key, (get_or found i blank).1) (other, id) ≡ Less) (sym two)
          (subst (λ (p : Entry). entry_cmp p (other, (get_or found j blank).1) ≡ Less)
          (sym (key_at i blank key (omega (arith, long))
          (subst (λ (id : List ℕ). IsLeastOf wanted (keys_at documents id) key) one l)))
          (subst (λ (p : Entry). entry_cmp (get_or found i blank) p ≡ Less)
          (sym (key_at j blank other (omega (arith, long))
          (subst (λ (id : List ℕ). IsLeastOf wanted (keys_at documents id) other) two m)))
          (sorted_rises entry_cmp entry_total (entries_by documents) i j blank lt (omega (arith, long))))));
    }

    pub one_answer_by : (ids : List (List ℕ)) → IsAnswerBy wanted documents ids → ids ≡ answer_by wanted documents
    one_answer_by ids a = one_answer wanted documents ids (answer_by wanted documents) a is_answer

    -- the filter of the pairs of a table is the answer by the documents that it is of
    pub filter_by : (entries : List Entry) → IsInOrder entries → IsTableOf documents entries
        → answer wanted entries ≡ answer_by wanted documents
    filter_by entries order table = one_answer_by (answer wanted entries)
        (answer_is_by documents entries table wanted (answer wanted entries) (answer_is wanted entries order))
