-- Lists in which each item is below all later ones, by any total order: they are sets, written in order.
use Rattle.std.proofs.Common.{◌≡◌, ◌≢◌, ℕ, ◌-◌, ◌<◌, ◌≤◌, Bool, true, false, cond, not, ◌&&◌, ◌||◌, List, [], ◌∷◌}
use Rattle.std.proofs.Common.{length, map, get_or, zero, suc, refl, sym, subst, ◌∙◌, ap, arith, Some, None, Ordering}
use Rattle.std.proofs.Common.{Less, Equal, Greater}
use Rattle.std.specs.Prelude.{IsTrue}
use Rattle.std.specs.Bool.{passes}
use Rattle.std.specs.List.{HoldsAt, AllPairs, filter, insert, remove, list_any}
use Rattle.std.specs.Ordering.{eq_by_cmp, is_lt, is_eq}
use Rattle.std.specs.Cmp.{IsTotalOrder, eq_by_cmp_equiv}
use Rattle.std.specs.FinMap.Entries.{find, where_key, is_sorted, below_all, same_entries}
use Rattle.std.proofs.lemmas.List.{length-map}
use Rattle.std.proofs.lemmas.List.Elements.{filter_agree}
use Rattle.chunk_list.specs.inner.Sorted.{StandsAt, FitsAt}
use Rattle.chunk_list.proofs.Sorted.{fits_at, put_fits, sorted_put, where_fits, where_stands}
use Rattle.u1_base.proofs.Booleans.{both, first, second}
use Rattle.u1_base.proofs.SameIds.{equal_is}
use Rattle.index_tables.proofs.Lists.{is_less, map-insert, map-remove, holds_map, none_at}

module _ {K : Type 0} (R : K → K → Ordering) where
  -- the items as keys of entries without a value
  abbrev unit : K → K × Unit {0}
  unit k = (k, tt)

  abbrev units : List K → List (K × Unit {0})
  units ks = map unit ks

  keys_units : (ks : List K) → map (λ e. e.0) (units ks) ≡ ks
  keys_units [] = refl
  keys_units (k ∷ ks) = ap (λ (l : List K). k ∷ l) (keys_units ks)

  units-filter : (f : K → Bool) (ks : List K) → units (filter f ks) ≡ where_key R f (units ks)
  units-filter f [] = refl
  units-filter f (k ∷ ks) =
      elim (f k) as (λ (b : Bool). units (cond b (k ∷ filter f ks) (filter f ks))
      ≡ cond b (unit k ∷ where_key R f (units ks)) (where_key R f (units ks))) [
        | true ↦ ap (λ (l : List (K × Unit {0})). unit k ∷ l) (units-filter f ks)
        | false ↦ units-filter f ks
      ]

  below_units : (x : K) (ks : List K) → ((j : ℕ) (d : K) → j < length ks → R x (get_or ks j d) ≡ Less)
      → IsTrue (below_all R x (units ks))
  below_units x [] h = refl
  below_units x (k ∷ ks) h = both _ _ (ap is_lt (h 0 k (omega arith)))
      (below_units x ks (λ j d lt. h (suc j) d (omega arith)))

  above_units : (x : K) (ks : List K) → IsTrue (below_all R x (units ks)) → (j : ℕ) (d : K) → j < length ks
      → R x (get_or ks j d) ≡ Less
  above_units x [] h j d lt = absurd (omega arith)
  above_units x (k ∷ ks) h zero d lt = is_less _ (first _ _ h)
  above_units x (k ∷ ks) h (suc j) d lt = above_units x ks (second _ _ h) j d (omega arith)

  pub to_sorted : (ks : List K) → AllPairs (λ x y. R x y ≡ Less) ks → IsTrue (is_sorted R (units ks))
  to_sorted [] h = refl
  to_sorted (k ∷ ks) h = both _ _ (below_units k ks (λ j d lt. h 0 (suc j) d (omega arith) (omega arith)))
      (to_sorted ks (λ i j d lt le. h (suc i) (suc j) d (omega arith) (omega arith)))

  pub from_sorted : (ks : List K) → IsTrue (is_sorted R (units ks)) → AllPairs (λ x y. R x y ≡ Less) ks
  from_sorted [] h i j d lt le = absurd (omega arith)
  from_sorted (k ∷ ks) h zero zero d lt le = absurd (omega arith)
  from_sorted (k ∷ ks) h zero (suc j) d lt le = above_units k ks (first _ _ h) j d (omega arith)
  from_sorted (k ∷ ks) h (suc i) zero d lt le = absurd (omega arith)
  from_sorted (k ∷ ks) h (suc i) (suc j) d lt le = from_sorted ks (second _ _ h) i j d (omega arith) (omega arith)

  find_units : (k : K) (ks : List K) → find R k (units ks) ≡ cond (list_any (eq_by_cmp R k) ks) (Some tt) None
  find_units k [] = refl
  find_units k (x ∷ ks) = elim (eq_by_cmp R k x) as
      (λ (b : Bool). cond b (Some tt) (find R k (units ks)) ≡ cond (b || list_any (eq_by_cmp R k) ks) (Some tt) None)
      [ true ↦ refl | false ↦ find_units k ks ]

  module _ (o : IsTotalOrder R) where
    -- lists in order that hold the same are the same
    pub same_sets : ((x y : K) → R x y ≡ Equal → x ≡ y) → (ks ls : List K) → AllPairs (λ x y. R x y ≡ Less) ks
        → AllPairs (λ x y. R x y ≡ Less) ls
        → ((k : K) → list_any (eq_by_cmp R k) ks ≡ list_any (eq_by_cmp R k) ls) → ks ≡ ls
    same_sets same ks ls h g is =
        sym (keys_units ks)
        ∙ ap (λ (l : List (K × Unit {0})). map (λ e. e.0) l)
        (same_entries R o same (units ks) (units ls) (passes _ (to_sorted ks h)) (passes _ (to_sorted ls g))
        (λ k. find_units k ks ∙ ap (λ (b : Bool). cond b (Some tt) None) (is k) ∙ sym (find_units k ls)))
        ∙ keys_units ls

    flip : (k x : K) → eq_by_cmp R x k ≡ eq_by_cmp R k x
    flip k x = (eq_by_cmp_equiv o).symm x k

    module _ (same : (x y : K) → R x y ≡ Equal → x ≡ y) (k : K) (ks : List K) (q : ℕ)
        (h : AllPairs (λ x y. R x y ≡ Less) ks) where
      filter_as : (f : K → Bool) (ls : List K) → where_key R f (units ks) ≡ units ls → filter f ks ≡ ls
      filter_as f ls is = sym (keys_units (filter f ks))
          ∙ ap (λ (l : List (K × Unit {0})). map (λ e. e.0) l) (units-filter f ks ∙ is) ∙ keys_units ls

      turned : filter (λ x. not (eq_by_cmp R x k)) ks ≡ filter (λ x. not (eq_by_cmp R k x)) ks
      turned = filter_agree (λ x. not (eq_by_cmp R x k)) (λ x. not (eq_by_cmp R k x)) (λ x. ap not (flip k x)) ks

      -- the item stands at the place, and is taken out
      pub filter_stands : q < length ks → HoldsAt (λ x. eq_by_cmp R x k ≡ true) ks q
          → filter (λ x. not (eq_by_cmp R x k)) ks ≡ remove ks q
      filter_stands lt at =
          let stands : StandsAt R (units ks) k q = record {
            within = omega (arith, length-map ks unit);
            same = holds_map unit (λ e. R k e.0 ≡ Equal) ks q lt
                (λ d. equal_is _ (sym (flip k (get_or ks q d)) ∙ at d));
          } in
          turned ∙ filter_as (λ x. not (eq_by_cmp R k x)) (remove ks q)
          (where_stands R o same k (units ks) q (to_sorted ks h) stands ∙ sym (map-remove unit ks q))

      -- the search ended at the place
      module _ (le : q ≤ length ks) (before : 0 < q → HoldsAt (λ x. is_lt (R x k) ≡ true) ks (q - 1))
          (after : q < length ks → HoldsAt (λ x. is_lt (R x k) ≡ false) ks q) where
        fits : (q < length ks → HoldsAt (λ x. eq_by_cmp R x k ≡ false) ks q) → FitsAt R (units ks) k q
        fits other =
            fits_at R o k (units ks) q (omega (arith, length-map ks unit))
            (λ some. holds_map unit (λ e. is_lt (R e.0 k) ≡ true) ks (q - 1) (omega arith) (before some))
            (λ lt. holds_map unit (λ e. is_lt (R e.0 k) ≡ false) ks q (omega (arith, length-map ks unit))
            (after (omega (arith, length-map ks unit))))
            (λ lt. holds_map unit (λ e. R e.0 k ≢ Equal) ks q (omega (arith, length-map ks unit))
            (λ d tie. let no = other (omega (arith, length-map ks unit)) d in let yes = ap is_eq tie
            in absurd (cc (no, yes))))

        -- another item stands there, or none: nothing is taken out
        pub filter_fits : (q < length ks → HoldsAt (λ x. eq_by_cmp R x k ≡ false) ks q)
            → filter (λ x. not (eq_by_cmp R x k)) ks ≡ ks
        filter_fits other = turned
            ∙ filter_as (λ x. not (eq_by_cmp R k x)) ks (where_fits R o k (units ks) q (to_sorted ks h) (fits other))

        -- the item is not there, and is put in
        pub rising_insert : list_any (eq_by_cmp R k) ks ≡ false → AllPairs (λ x y. R x y ≡ Less) (insert ks q k)
        rising_insert none =
            let f : FitsAt R (units ks) k q =
            fits (λ lt d. flip k (get_or ks q d) ∙ none_at (eq_by_cmp R k) ks q lt none d) in
            from_sorted (insert ks q k)
            (subst (λ (es : List (K × Unit {0})). IsTrue (is_sorted R es))
            (put_fits R o k (units ks) q (to_sorted ks h) f tt ∙ sym (map-insert unit ks q k))
            (sorted_put R o k tt (units ks) (to_sorted ks h)))
