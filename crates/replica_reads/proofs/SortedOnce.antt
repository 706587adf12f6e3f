-- Items in their order, each once: they are those of the list, and they rise.
use Rattle.std.proofs.Common.{◌≡◌, Bool, true, false, ◌||◌, T, List, [], ◌∷◌, map, refl, sym, subst, ◌∙◌, ap, Ordering}
use Rattle.std.proofs.Common.{Less, Equal, Greater}
use Rattle.std.specs.BTreeSet.{insert_key}
use Rattle.std.specs.Cmp.{IsTotalOrder, alike_right}
use Rattle.std.specs.FinMap.Entries.{by_order, is_sorted, is_sorted-put, put}
use Rattle.std.specs.List.{AllPairs, list_any}
use Rattle.std.specs.Ordering.{eq_by_cmp, is_eq, match_ordering}
use Rattle.index_tables.proofs.Sets.{from_sorted}
use Rattle.replica_reads.specs.Answers.{sorted_once}

again : (b rest : Bool) → (b || rest) ≡ (b || (b || rest))
again true rest = refl
again false rest = refl

turned : (a b rest : Bool) → (a || (b || rest)) ≡ (b || (a || rest))
turned true true rest = refl
turned true false rest = refl
turned false b rest = refl

pub is_true : (b : Bool) → T b → b ≡ true
is_true true h = refl
is_true false h = absurd h

module _ {X : Type 0} (R : X → X → Ordering) (o : IsTotalOrder R) where
  any-insert : (q k : X) (ks : List X)
      → list_any (eq_by_cmp R q) (insert_key R ks k) ≡ (eq_by_cmp R q k || list_any (eq_by_cmp R q) ks)
  any-insert q k [] = refl
  any-insert q k (x ∷ ks) = elim (R k x) as (λ (r : Ordering). R k x ≡ r
      → list_any (eq_by_cmp R q) (match_ordering r (k ∷ x ∷ ks) (x ∷ ks) (x ∷ insert_key R ks k))
      ≡ (eq_by_cmp R q k || (eq_by_cmp R q x || list_any (eq_by_cmp R q) ks))) [
        | Less ↦ λ e. refl
        | Equal ↦ λ e. again (eq_by_cmp R q x) (list_any (eq_by_cmp R q) ks)
            ∙ ap (λ (r : Ordering). is_eq r || (eq_by_cmp R q x || list_any (eq_by_cmp R q) ks))
            (sym (alike_right o k x q e))
        | Greater ↦ λ e. ap (λ (b : Bool). eq_by_cmp R q x || b) (any-insert q k ks)
            ∙ turned (eq_by_cmp R q x) (eq_by_cmp R q k) (list_any (eq_by_cmp R q) ks)
      ] refl

  pub any-sorted : (q : X) (xs : List X) → list_any (eq_by_cmp R q) (sorted_once R xs) ≡ list_any (eq_by_cmp R q) xs
  any-sorted q [] = refl
  any-sorted q (x ∷ xs) = any-insert q x (sorted_once R xs) ∙ ap (λ (b : Bool). eq_by_cmp R q x || b) (any-sorted q xs)

  -- as entries without a value
  abbrev unit : X → X × Unit {0}
  unit x = (x, tt)

  insert_put : (k : X) (ks : List X) → map unit (insert_key R ks k) ≡ put R k tt (map unit ks)
  insert_put k [] = refl
  insert_put k (x ∷ ks) = elim (R k x) as
      (λ (r : Ordering). map unit (match_ordering r (k ∷ x ∷ ks) (x ∷ ks) (x ∷ insert_key R ks k))
      ≡ by_order r (unit k ∷ unit x ∷ map unit ks) (unit x ∷ map unit ks) (unit x ∷ put R k tt (map unit ks))) [
        | Less ↦ refl
        | Equal ↦ refl
        | Greater ↦ ap (λ (l : List (X × Unit {0})). unit x ∷ l) (insert_put k ks)
      ]

  in_order : (xs : List X) → T (is_sorted R (map unit (sorted_once R xs)))
  in_order [] = tt
  in_order (x ∷ xs) = subst (λ (es : List (X × Unit {0})). T (is_sorted R es)) (sym (insert_put x (sorted_once R xs)))
      (is_sorted-put R o x tt (map unit (sorted_once R xs)) (in_order xs))

  pub sorted_rises : (xs : List X) → AllPairs (λ x y. R x y ≡ Less) (sorted_once R xs)
  sorted_rises xs = from_sorted R (sorted_once R xs) (is_true _ (in_order xs))
