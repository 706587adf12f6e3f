-- The answer of a table is the answer by its documents, and there is no other.
use Rattle.std.proofs.Common.{◌≡◌, ℕ, ◌<◌, Bool, true, false, cond, ◌&&◌, ◌||◌, List, [], ◌∷◌, length, map, get_or}
use Rattle.std.proofs.Common.{zero, suc, refl, sym, subst, ◌∙◌, ap, ap₂, arith, inl, inr, Ordering, Less, Equal}
use Rattle.std.proofs.Common.{Greater}
use Rattle.std.proofs.lemmas.Bool.{cases_Bool}
use Rattle.std.proofs.lemmas.Cmp.{upto}
use Rattle.std.proofs.lemmas.List.{get_or-map, length-map}
use Rattle.std.specs.List.{AllPairs, list_any}
use Rattle.std.specs.Ordering.{is_eq, is_le, ordering_reverse}
use Rattle.u1_base.specs.Ids.{same_id}
use Rattle.u1_base.proofs.Booleans.{both, first, second, not_both}
use Rattle.u1_base.proofs.SameIds.{same_id_is, same_id-itself}
use Rattle.index_tables.specs.Documents.{Documents, IsTableOf, has_key, keys_at}
use Rattle.index_tables.specs.Entries.{has, is_of, same}
use Rattle.index_tables.specs.Order.{Entry, IsInOrder, Key, entry_cmp, key_cmp, same_key}
use Rattle.index_tables.proofs.Laws.{same_is, same_key_is, same_key_self, same_pair, same_self, same_tables}
use Rattle.index_tables.proofs.TotalOrders.{key_total}
use Rattle.query_range.specs.Answers.{AreKeys, AreKeysBy, GoesBefore, IsAnswer, IsAnswerBy, IsLeastKey, IsLeastOf}
use Rattle.query_range.proofs.Laws.{same_tests}
use Rattle.query_range.proofs.Ranges.{gt_le, le_gt}

or_later : (a b : Bool) → b ≡ true → (a || b) ≡ true
or_later true b p = refl
or_later false b p = p

-- what passes a test, and is there by each test that it passes
any_gives : {X : Type 0} (f : X → Bool) (xs : List X) → list_any f xs ≡ true → (x : X) × (f x ≡ true)
    × ((g : X → Bool) → g x ≡ true → list_any g xs ≡ true)
any_gives f [] e = absurd (cc)
any_gives {X} f (x ∷ xs) e = elim (f x) as (λ (b : Bool). f x ≡ b → (b || list_any f xs) ≡ true → (y : X)
    × (f y ≡ true) × ((g : X → Bool) → g y ≡ true → list_any g (x ∷ xs) ≡ true)) [
      | true ↦ λ is h. (x, is, λ g p. ap (λ (b : Bool). b || list_any g xs) p)
      | false ↦ λ is h. let r = any_gives f xs h in (r.0, r.1, λ g p. or_later (g x) (list_any g xs) (r.2 g p))
    ] refl e

module _ (documents : Documents) (entries : List Entry) (is : IsTableOf documents entries) where
  module _ (wanted : Key → Bool) where
    to_keys : (id : List ℕ) → list_any (λ p. is_of id p && wanted p.0) entries ≡ true
        → list_any wanted (keys_at documents id) ≡ true
    to_keys id e =
        let found = any_gives (λ (p : Entry). is_of id p && wanted p.0) entries e in
        let p = found.0 in
        let there : has entries p ≡ true = found.2 (same p) (same_self p) in
        let id_is : id ≡ p.1 = same_id_is id p.1 (first (is_of id p) (wanted p.0) found.1) in
        let key = any_gives (same_key p.0) (keys_at documents id)
        (subst (λ (i : List ℕ). has_key (keys_at documents i) p.0 ≡ true) (sym id_is) (sym (is p) ∙ there)) in
        key.2 wanted (subst (λ (k : Key). wanted k ≡ true) (same_key_is p.0 key.0 key.1)
        (second (is_of id p) (wanted p.0) found.1))

    to_entries : (id : List ℕ) → list_any wanted (keys_at documents id) ≡ true
        → list_any (λ p. is_of id p && wanted p.0) entries ≡ true
    to_entries id e =
        let found = any_gives wanted (keys_at documents id) e in
        let there : has entries (found.0, id) ≡ true = is (found.0, id)
        ∙ found.2 (same_key found.0) (same_key_self found.0) in
        let entry = any_gives (same (found.0, id)) entries there in
        entry.2 (λ (p : Entry). is_of id p && wanted p.0)
        (subst (λ (p : Entry). (is_of id p && wanted p.0) ≡ true) (same_is (found.0, id) entry.0 entry.1)
        (both (is_of id (found.0, id)) (wanted found.0) (same_id-itself id) found.1))

    least_key : (id : List ℕ) (key : Key) → IsLeastOf wanted (keys_at documents id) key
        → IsLeastKey wanted entries id key
    least_key id key l = record {
      there = is (key, id) ∙ l.there;
      is_wanted = l.is_wanted;
      least = λ other there. l.least other (sym (is (other, id)) ∙ there);
    }

    pub answer_by : (ids : List (List ℕ)) → IsAnswer wanted entries ids → IsAnswerBy wanted documents ids
    answer_by ids a = record {
      members = λ id. a.members id
          ∙ same_tests (list_any (λ p. is_of id p && wanted p.0) entries) (list_any wanted (keys_at documents id))
          (to_keys id) (to_entries id);
      order = λ i j d lt le key other l m. a.order i j d lt le key other (least_key _ key l) (least_key _ other m);
    }

  pub keys_by : (keys : List Key) → AreKeys entries keys → AreKeysBy documents keys
  keys_by keys k = record {
    all = λ id key there.
        let entry = any_gives (same (key, id)) entries (is (key, id) ∙ there) in
        k.members key ∙ entry.2 (λ (p : Entry). same_key key p.0)
        (subst (λ (p : Entry). same_key key p.0 ≡ true) (same_is (key, id) entry.0 entry.1) (same_key_self key));
    no_others = λ key there.
        let found = any_gives (λ (p : Entry). same_key key p.0) entries (sym (k.members key) ∙ there) in
        let p = found.0 in (
          p.1,
          subst (λ (x : Key). has_key (keys_at documents p.1) x ≡ true) (sym (same_key_is key p.0 found.1))
              (sym (is p) ∙ found.2 (same p) (same_self p)),
        );
    order = k.order;
  }

-- ---- the least wanted key

not_greater : (a b c : Key) → is_le (key_cmp a b) ≡ true → is_le (key_cmp b c) ≡ true → is_le (key_cmp a c) ≡ true
not_greater a b c low high = gt_le (key_cmp a c)
    (upto key_total a b c (le_gt (key_cmp a b) low) (le_gt (key_cmp b c) high))

turned : (a b : Key) → is_le (key_cmp a b) ≡ false → is_le (key_cmp b a) ≡ true
turned a b above = ap is_le (key_total.antisymm b a) ∙ by (key_cmp a b) above
  where
    by : (r : Ordering) → is_le r ≡ false → is_le (ordering_reverse r) ≡ true
    by Less h = absurd (cc)
    by Equal h = absurd (cc)
    by Greater h = refl

same_le : (a b : Key) → same_key a b ≡ true → is_le (key_cmp b a) ≡ true
same_le a b e = subst (λ (k : Key). is_le (key_cmp b k) ≡ true) (sym (same_key_is a b e))
    (by (key_cmp b b) (same_key_self b))
  where
    by : (r : Ordering) → is_eq r ≡ true → is_le r ≡ true
    by Less h = absurd (cc)
    by Equal h = refl
    by Greater h = absurd (cc)

module _ (wanted : Key → Bool) where
  -- one key is no more than a least one, or is wanted alone
  pub least_of : List Key → Key
  least_of [] = []
  least_of (k ∷ keys) = cond (wanted k)
      (cond (list_any wanted keys && is_le (key_cmp (least_of keys) k)) (least_of keys) k) (least_of keys)

  none_wanted : (keys : List Key) (other : Key) → list_any wanted keys ≡ false → has_key keys other ≡ true
      → wanted other ≡ true → ⊥
  none_wanted keys other none there is =
      let found = any_gives (same_key other) keys there in
      not_both (list_any wanted keys)
      (found.2 wanted (subst (λ (k : Key). wanted k ≡ true) (same_key_is other found.0 found.1) is)) none

  split_has : (k : Key) (keys : List Key) (other : Key) (P : Type 0) → has_key (k ∷ keys) other ≡ true
      → (same_key other k ≡ true → P) → (has_key keys other ≡ true → P) → P
  split_has k keys other P there here behind =
      elim (same_key other k) as (λ (b : Bool). same_key other k ≡ b → (b || has_key keys other) ≡ true → P) [
        | true ↦ λ e h. here e
        | false ↦ λ e h. behind h
      ] refl there

  -- the first key is wanted, and no more than the others that are
  first_least : (k : Key) (keys : List Key) → wanted k ≡ true
      → ((other : Key) → has_key keys other ≡ true → wanted other ≡ true → is_le (key_cmp k other) ≡ true)
      → IsLeastOf wanted (k ∷ keys) k
  first_least k keys is low = record {
    there = ap (λ (b : Bool). b || has_key keys k) (same_key_self k);
    is_wanted = is;
    least = λ other there w. split_has k keys other (is_le (key_cmp k other) ≡ true) there (λ e. same_le other k e)
        (λ h. low other h w);
  }

  -- a least one of the others is least, where the first is not wanted or not below it
  rest_least : (k : Key) (keys : List Key) (m : Key) → IsLeastOf wanted keys m
      → (wanted k ≡ true → is_le (key_cmp m k) ≡ true) → IsLeastOf wanted (k ∷ keys) m
  rest_least k keys m l low = record {
    there = or_later (same_key m k) (has_key keys m) l.there;
    is_wanted = l.is_wanted;
    least = λ other there w. split_has k keys other (is_le (key_cmp m other) ≡ true) there
        (λ e. let one : other ≡ k = same_key_is other k e
        in subst (λ (x : Key). is_le (key_cmp m x) ≡ true) (sym one) (low (subst (λ (x : Key). wanted x ≡ true) one w)))
        (λ h. l.least other h w);
  }

  pub is_least : (keys : List Key) → list_any wanted keys ≡ true → IsLeastOf wanted keys (least_of keys)
  unfolding least_of
  is_least [] e = absurd (cc)
  is_least (k ∷ keys) e = elim (wanted k) as (λ (b : Bool). wanted k ≡ b → (b || list_any wanted keys) ≡ true
      → IsLeastOf wanted (k ∷ keys)
      (cond b (cond (list_any wanted keys && is_le (key_cmp (least_of keys) k)) (least_of keys) k) (least_of keys))) [
        | true ↦ λ w h. elim (list_any wanted keys) as
            (λ (b : Bool). list_any wanted keys ≡ b
            → IsLeastOf wanted (k ∷ keys) (cond (b && is_le (key_cmp (least_of keys) k)) (least_of keys) k)) [
              | true ↦ λ some. elim (is_le (key_cmp (least_of keys) k)) as
                  (λ (b : Bool). is_le (key_cmp (least_of keys) k) ≡ b
                  → IsLeastOf wanted (k ∷ keys) (cond b (least_of keys) k)) [
                    | true ↦ λ low. rest_least k keys (least_of keys) (is_least keys some) (λ _. low)
                    | false ↦ λ high. first_least k keys w
                        (λ other there v. not_greater k (least_of keys) other (turned (least_of keys) k high)
                        ((is_least keys some).least other there v))
                  ] refl
              | false ↦ λ none. first_least k keys w (λ other there v. absurd (none_wanted keys other none there v))
            ] refl
        | false ↦ λ no h. rest_least k keys (least_of keys) (is_least keys h)
            (λ yes. absurd (not_both (wanted k) yes no))
      ] refl e

  -- ---- one answer

  module _ (documents : Documents) where
    abbrev entry_for : List ℕ → Entry
    entry_for id = (least_of (keys_at documents id), id)

    abbrev entries_for : List (List ℕ) → List Entry
    entries_for ids = map entry_for ids

    has-entries_for : (ids : List (List ℕ)) (p : Entry)
        → has (entries_for ids) p ≡ (list_any (same_id p.1) ids && same_key p.0 (least_of (keys_at documents p.1)))
    has-entries_for [] p = refl
    has-entries_for (id ∷ ids) p =
        ap₂ (λ (a b : Bool). a || b) (same_pair p (entry_for id) ∙ told) (has-entries_for ids p)
        ∙ spread (same_id p.1 id) (list_any (same_id p.1) ids) (same_key p.0 (least_of (keys_at documents p.1)))
      where
        told : (same_id p.1 id && same_key p.0 (least_of (keys_at documents id)))
            ≡ (same_id p.1 id && same_key p.0 (least_of (keys_at documents p.1)))
        told = elim (same_id p.1 id) as (λ (b : Bool). same_id p.1 id ≡ b
            → (b && same_key p.0 (least_of (keys_at documents id)))
            ≡ (b && same_key p.0 (least_of (keys_at documents p.1)))) [
              | true ↦ λ e. ap (λ (i : List ℕ). same_key p.0 (least_of (keys_at documents i)))
                  (sym (same_id_is p.1 id e))
              | false ↦ λ e. refl
            ] refl

        spread : (a b c : Bool) → ((a && c) || (b && c)) ≡ ((a || b) && c)
        spread true true true = refl
        spread true true false = refl
        spread true false true = refl
        spread true false false = refl
        spread false b c = refl

    in_ids : (ids : List (List ℕ)) (k : ℕ) (d : List ℕ) → k < length ids
        → list_any (same_id (get_or ids k d)) ids ≡ true
    in_ids [] k d lt = absurd (omega arith)
    in_ids (id ∷ ids) zero d lt = ap (λ (b : Bool). b || list_any (same_id id) ids) (same_id-itself id)
    in_ids (id ∷ ids) (suc k) d lt = or_later (same_id (get_or ids k d) id) (list_any (same_id (get_or ids k d)) ids)
        (in_ids ids k d (omega arith))

    in_order : (ids : List (List ℕ)) → IsAnswerBy wanted documents ids → IsInOrder (entries_for ids)
    in_order ids a i j d lt le =
        let long : length (entries_for ids) ≡ length ids = length-map ids entry_for in
        let one : get_or (entries_for ids) i d ≡ entry_for (get_or ids i d.1) =
        get_or-map entry_for ids i d.1 d (omega (arith, long)) in
        let other : get_or (entries_for ids) j d ≡ entry_for (get_or ids j d.1) =
        get_or-map entry_for ids j d.1 d (omega (arith, long)) in
        subst (λ (p : Entry). entry_cmp p (get_or (entries_for ids) j d) ≡ Less) (sym one)
        (subst (λ (p : Entry). entry_cmp (entry_for (get_or ids i d.1)) p ≡ Less) (sym other)
        (a.order i j d.1 lt (omega (arith, long)) (least_of (keys_at documents (get_or ids i d.1)))
        (least_of (keys_at documents (get_or ids j d.1)))
        (is_least (keys_at documents (get_or ids i d.1))
        (sym (a.members (get_or ids i d.1)) ∙ in_ids ids i d.1 (omega (arith, long))))
        (is_least (keys_at documents (get_or ids j d.1))
        (sym (a.members (get_or ids j d.1)) ∙ in_ids ids j d.1 (omega (arith, long))))))

    ids_back : (ids : List (List ℕ)) → map (λ p. p.1) (entries_for ids) ≡ ids
    ids_back [] = refl
    ids_back (id ∷ ids) = ap (λ (l : List (List ℕ)). id ∷ l) (ids_back ids)

    pub one_answer : (ids others : List (List ℕ)) → IsAnswerBy wanted documents ids
        → IsAnswerBy wanted documents others → ids ≡ others
    one_answer ids others a b =
        sym (ids_back ids)
        ∙ ap (λ (l : List Entry). map (λ p. p.1) l)
        (same_tables (entries_for ids) (entries_for others) (in_order ids a) (in_order others b)
        (λ p. has-entries_for ids p
        ∙ ap (λ (t : Bool). t && same_key p.0 (least_of (keys_at documents p.1))) (a.members p.1 ∙ sym (b.members p.1))
        ∙ sym (has-entries_for others p)))
        ∙ ids_back others
