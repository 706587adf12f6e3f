-- Pruning one value at a time leaves the values that no other one of the whole list dominates, and each value of the
-- list is covered by one of these.
use Rattle.std.specs.Prelude.{◌≡◌, Bool, true, false, cond, not, ◌&&◌, ◌||◌, ◌⊎◌, List, [], ◌∷◌, ◌++◌, filter, refl}
use Rattle.std.specs.List.{list_any}
use Rattle.std.proofs.Common.{sym, ◌∙◌, ap, ap₂, subst, inl, inr, append_assoc, append-nil}
use Rattle.std.proofs.lemmas.Bool.{and_parts, and_from}
use Rattle.std.proofs.lemmas.List.Elements.{filter-append, filter_agree}
use Rattle.std.proofs.lemmas.List.Folds.{list_any-append}
use Rattle.conflicts.specs.Lists.{In}
use Rattle.conflicts.specs.Pruning.{is_above, is_equal, last_ones, undominated, pruned}
use Rattle.conflicts.specs.inner.Pruning.{IsPreorder, pruned_all}
use Rattle.conflicts.specs.inner.Pruning.{AllCovered}
use Rattle.u1_base.proofs.Booleans.{not_both, not_true, none_true}
use Rattle.conflicts.proofs.Members.{In-left, In-last, In-push, found, finds, In-filter, from_filter, filter-filter}

module _ {A : Type 0} (covers : A → A → Bool) where
  last_ones-push : (xs : List A) (a : A)
      → last_ones covers (xs ++ a ∷ []) ≡ filter (λ b. not (is_equal covers a b)) (last_ones covers xs) ++ a ∷ []
  last_ones-push [] a = refl
  last_ones-push (x ∷ xs) a =
      let ih = last_ones-push xs a in
      ap (λ b. cond b (last_ones covers (xs ++ a ∷ [])) (x ∷ last_ones covers (xs ++ a ∷ [])))
      (list_any-append (λ y. is_equal covers y x) xs (a ∷ []))
      ∙ elim (list_any (λ y. is_equal covers y x) xs) as
      (λ b. cond (b || (is_equal covers a x || false)) (last_ones covers (xs ++ a ∷ []))
      (x ∷ last_ones covers (xs ++ a ∷ [])) ≡ filter (λ b. not (is_equal covers a b))
      (cond b (last_ones covers xs) (x ∷ last_ones covers xs)) ++ a ∷ []) [
        | true ↦ ih
        | false ↦ elim (is_equal covers a x) as
            (λ c. cond (c || false) (last_ones covers (xs ++ a ∷ [])) (x ∷ last_ones covers (xs ++ a ∷ []))
            ≡ cond (not c) (x ∷ filter (λ b. not (is_equal covers a b)) (last_ones covers xs))
            (filter (λ b. not (is_equal covers a b)) (last_ones covers xs)) ++ a ∷ []) [
              | true ↦ ih
              | false ↦ ap (λ r. x ∷ r) ih
            ]
      ]

  from_last_ones : (x : A) (xs : List A) → In x (last_ones covers xs) → In x xs
  from_last_ones x [] h = absurd h
  from_last_ones x (y ∷ ys) h =
      elim (list_any (λ z. is_equal covers z y) ys) as
      (λ b. In x (cond b (last_ones covers ys) (y ∷ last_ones covers ys)) → In x (y ∷ ys)) [
        | true ↦ λ k. inr (from_last_ones x ys k)
        | false ↦ λ k. elim k [ inl e ↦ inl e | inr k ↦ inr (from_last_ones x ys k) ]
      ] h

  pub from_undominated : (x : A) (xs : List A) → In x (undominated covers xs) → In x xs
  from_undominated x xs h = from_last_ones x xs (from_filter _ x (last_ones covers xs) h).0

  -- on plain truth values: n some other one dominates x, ax a covers x, xa x covers a
  kept_test : (n ax xa : Bool) → (not (ax && xa) && not (n || ((ax && not xa) || false))) ≡ (not n && not ax)
  kept_test true true true = refl
  kept_test true true false = refl
  kept_test true false true = refl
  kept_test true false false = refl
  kept_test false true true = refl
  kept_test false true false = refl
  kept_test false false true = refl
  kept_test false false false = refl

  module _ (laws : IsPreorder covers) where
    -- what dominates a value that covers x dominates x, and so does what covers a value that dominates x
    pub above_through : (m a x : A) → is_above covers m a ≡ true → covers a x ≡ true → is_above covers m x ≡ true
    above_through m a x d c =
        let p = and_parts (covers m a) (not (covers a m)) d in
        and_from (covers m x) (not (covers x m)) (laws.through m a x p.0 c)
        (ap not (none_true (covers x m) (λ e. not_both _ (laws.through a x m c e) (not_true _ p.1))))

    pub covers_above : (m a x : A) → covers m a ≡ true → is_above covers a x ≡ true → is_above covers m x ≡ true
    covers_above m a x c d =
        let p = and_parts (covers a x) (not (covers x a)) d in
        and_from (covers m x) (not (covers x m)) (laws.through m a x c p.0)
        (ap not (none_true (covers x m) (λ e. not_both _ (laws.through x m a e c) (not_true _ p.1))))

    not_above_itself : (a : A) → is_above covers a a ≡ false
    not_above_itself a = ap (λ b. b && not b) (laws.itself a)

    -- one more value that a value of the list dominates
    push_dominated : (xs : List A) (a m : A) → In m xs → is_above covers m a ≡ true
        → undominated covers (xs ++ a ∷ []) ≡ undominated covers xs
    push_dominated xs a m h d =
        let P = λ (x : A). not (list_any (λ y. is_above covers y x) (xs ++ a ∷ [])) in
        let here : list_any (λ y. is_above covers y a) (xs ++ a ∷ []) ≡ true = finds _ m _ (In-left m xs _ h) d in
        ap (filter P) (last_ones-push xs a)
        ∙ filter-append P (filter (λ b. not (is_equal covers a b)) (last_ones covers xs)) (a ∷ [])
        ∙ ap (λ b. filter P (filter (λ b. not (is_equal covers a b)) (last_ones covers xs))
        ++ cond (not b) (a ∷ []) []) here
        ∙ append-nil _
        ∙ filter-filter P (λ b. not (is_equal covers a b)) (last_ones covers xs)
        ∙ filter_agree _ _ (λ x. ap (λ b. not (is_equal covers a x) && not b)
        (list_any-append (λ y. is_above covers y x) xs (a ∷ [])) ∙ kept_test _ _ _ ∙ agrees x) (last_ones covers xs)
      where
        agrees : (x : A) → (not (list_any (λ y. is_above covers y x) xs) && not (covers a x))
            ≡ not (list_any (λ y. is_above covers y x) xs)
        agrees x =
            elim (list_any (λ y. is_above covers y x) xs) as
            (λ b. list_any (λ y. is_above covers y x) xs ≡ b → (not b && not (covers a x)) ≡ not b) [
              | true ↦ λ _. refl
              | false ↦ λ none. ap not
                  (none_true (covers a x) (λ c. not_both _ (finds _ m xs h (above_through m a x d c)) none))
            ] refl

    -- one more value that none of the list dominates
    push_undominated : (xs : List A) (a : A) → list_any (λ y. is_above covers y a) xs ≡ false
        → undominated covers (xs ++ a ∷ []) ≡ filter (λ m. not (covers a m)) (undominated covers xs) ++ a ∷ []
    push_undominated xs a none =
        let P = λ (x : A). not (list_any (λ y. is_above covers y x) (xs ++ a ∷ [])) in
        let here : list_any (λ y. is_above covers y a) (xs ++ a ∷ []) ≡ false =
        list_any-append (λ y. is_above covers y a) xs (a ∷ [])
        ∙ ap₂ (λ b c. b || (c || false)) none (not_above_itself a) in
        ap (filter P) (last_ones-push xs a)
        ∙ filter-append P (filter (λ b. not (is_equal covers a b)) (last_ones covers xs)) (a ∷ [])
        ∙ ap (λ b. filter P (filter (λ b. not (is_equal covers a b)) (last_ones covers xs))
        ++ cond (not b) (a ∷ []) []) here
        ∙ ap (λ r. r ++ a ∷ [])
        (filter-filter P (λ b. not (is_equal covers a b)) (last_ones covers xs)
        ∙ filter_agree _ _ (λ x. ap (λ b. not (is_equal covers a x) && not b)
        (list_any-append (λ y. is_above covers y x) xs (a ∷ [])) ∙ kept_test _ _ _) (last_ones covers xs)
        ∙ sym (filter-filter (λ m. not (covers a m)) (λ x. not (list_any (λ y. is_above covers y x) xs))
        (last_ones covers xs)))

    -- one step prunes as the whole list says
    pub undominated-push : (xs : List A) (a : A) → AllCovered covers xs
        → undominated covers (xs ++ a ∷ []) ≡ pruned covers (undominated covers xs) a
    undominated-push xs a all =
        elim (list_any (λ m. is_above covers m a) (undominated covers xs)) as
        (λ b. list_any (λ m. is_above covers m a) (undominated covers xs) ≡ b
        → undominated covers (xs ++ a ∷ []) ≡ cond b (undominated covers xs)
        (filter (λ m. not (covers a m)) (undominated covers xs) ++ a ∷ [])) [
          | true ↦ λ e. let f = found _ (undominated covers xs) e
              in push_dominated xs a f.0 (from_undominated f.0 xs f.1) f.2
          | false ↦ λ e. push_undominated xs a (none_true _ (λ some.
              let f = found _ xs some in
              let m = all f.0 f.1 in
              not_both _ (finds _ m.0 (undominated covers xs) m.1 (covers_above m.0 f.0 a m.2 f.2)) e))
        ] refl

    -- the value that covers x after one more
    coverer : (ms : List A) (a x : A) → (x ≡ a) ⊎ ((m : A) × In m ms × (covers m x ≡ true)) → (m : A)
        × In m (pruned covers ms a) × (covers m x ≡ true)
    coverer ms a x (inl q) =
        elim (list_any (λ m. is_above covers m a) ms) as
        (λ b. list_any (λ m. is_above covers m a) ms ≡ b → (m : A)
        × In m (cond b ms (filter (λ m. not (covers a m)) ms ++ a ∷ [])) × (covers m x ≡ true)) [
          | true ↦ λ e. let f = found _ ms e
              in (
                f.0,
                f.1,
                subst (λ y. covers f.0 y ≡ true) (sym q)
                    (and_parts (covers f.0 a) (not (covers a f.0)) f.2).0,
              )
          | false ↦ λ _. (a, In-last a _, subst (λ y. covers a y ≡ true) (sym q) (laws.itself a))
        ] refl
    coverer ms a x (inr m) =
        elim (list_any (λ m. is_above covers m a) ms) as
        (λ b. (m : A) × In m (cond b ms (filter (λ m. not (covers a m)) ms ++ a ∷ [])) × (covers m x ≡ true)) [
          | true ↦ m
          | false ↦ elim (covers a m.0) as (λ c. covers a m.0 ≡ c → (m : A)
              × In m (filter (λ m. not (covers a m)) ms ++ a ∷ []) × (covers m x ≡ true)) [
                | true ↦ λ c. (a, In-last a _, laws.through a m.0 x c m.2)
                | false ↦ λ c. (m.0, In-left m.0 _ _ (In-filter _ m.0 ms m.1 (ap not c)), m.2)
              ] refl
        ]

    -- what a value of the list covers stays covered after one more
    pub still_covered : (ms : List A) (a x m : A) → In m ms → covers m x ≡ true → (n : A) × In n (pruned covers ms a)
        × (covers n x ≡ true)
    still_covered ms a x m h c = coverer ms a x (inr (m, h, c))

    AllCovered-push : (xs : List A) (a : A) → AllCovered covers xs → AllCovered covers (xs ++ a ∷ [])
    AllCovered-push xs a all x h =
        let put = coverer (undominated covers xs) a x
        (elim (In-push x a xs h) [ inl k ↦ inr (all x k) | inr q ↦ inl q ]) in
        (put.0, subst (In put.0) (sym (undominated-push xs a all)) put.1, put.2)

    both_from : (later xs : List A) → AllCovered covers xs
        → (undominated covers (xs ++ later) ≡ pruned_all covers (undominated covers xs) later)
        × AllCovered covers (xs ++ later)
    both_from [] xs all = (ap (undominated covers) (append-nil xs), subst (AllCovered covers) (sym (append-nil xs)) all)
    both_from (a ∷ later) xs all =
        let r = both_from later (xs ++ a ∷ []) (AllCovered-push xs a all) in
        let shift : xs ++ a ∷ later ≡ (xs ++ a ∷ []) ++ later = sym (append_assoc xs (a ∷ []) later) in (
          ap (undominated covers) shift ∙ r.0
              ∙ ap (λ ms. pruned_all covers ms later) (undominated-push xs a all),
          subst (AllCovered covers) (sym shift) r.1,
        )

    -- pruning step by step leaves what the whole list leaves
    pub pruned_is_undominated : (xs : List A) → pruned_all covers [] xs ≡ undominated covers xs
    pruned_is_undominated xs = sym (both_from xs [] (λ x h. absurd h)).0

    pub all_covered : (xs : List A) → AllCovered covers xs
    all_covered xs = (both_from xs [] (λ x h. absurd h)).1
