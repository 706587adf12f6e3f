-- Sorted entries, by any total order of their keys: what it says of the whole list where a key stands or would
-- stand, and what is left when an entry is put, replaced or taken out there.
use Rattle.std.proofs.Common.{◌≡◌, ◌≢◌, ℕ, ◌-◌, ◌<◌, ◌≤◌, Bool, true, false, cond, not, ◌&&◌, List, [], ◌∷◌, length}
use Rattle.std.proofs.Common.{set, get_or, zero, suc, refl, sym, subst, ◌∙◌, ap, arith, Some, None, Ordering, Less}
use Rattle.std.proofs.Common.{Equal, Greater}
use Rattle.std.proofs.lemmas.Bool.{and_parts}
use Rattle.std.proofs.lemmas.Float.{T_from_true}
use Rattle.std.specs.Prelude.{IsTrue, T}
use Rattle.std.specs.List.{HoldsAt, insert, remove}
use Rattle.std.specs.Ordering.{eq_by_cmp, is_lt, is_eq, ordering_reverse}
use Rattle.std.specs.Cmp.{IsTotalOrder}
use Rattle.std.specs.FinMap.Entries.{find, put, where_key, is_sorted, below_all, is_sorted-put, by_order}
use Rattle.chunk_list.specs.inner.Sorted.{StandsAt, FitsAt}

is_less : (r : Ordering) → IsTrue (is_lt r) → r ≡ Less
is_less Less p = refl
is_less Equal p = absurd (cc)
is_less Greater p = absurd (cc)

is_greater : (r : Ordering) → is_lt r ≡ false → r ≢ Equal → r ≡ Greater
is_greater Less p ne = absurd (cc)
is_greater Equal p ne = absurd (ne refl)
is_greater Greater p ne = refl

pub from_test : (b : Bool) → T b → IsTrue b
from_test true p = refl
from_test false p = absurd p

greater : {K : Type 0} (R : K → K → Ordering) (o : IsTotalOrder R) (k x : K) → R x k ≡ Less → R k x ≡ Greater
greater R o k x less = o.antisymm k x ∙ ap ordering_reverse less

module _ {K V : Type 0} (R : K → K → Ordering) (o : IsTotalOrder R) where
  -- an entry behind one that all are above
  above : (x : K) (es : List (K × V)) (q : ℕ) (d : K × V) → IsTrue (below_all R x es) → q < length es
      → R x (get_or es q d).0 ≡ Less
  above x [] q d p lt = absurd (omega arith)
  above x (e ∷ es) zero d p lt = is_less _ (and_parts _ _ p).0
  above x (e ∷ es) (suc q) d p lt = above x es q d (and_parts _ _ p).1 (omega arith)

  -- what is below one that all are above is below all
  below_more : (k x : K) (es : List (K × V)) → R k x ≡ Less → IsTrue (below_all R x es) → IsTrue (below_all R k es)
  below_more k x [] less p = refl
  below_more k x (e ∷ es) less p =
      subst (λ (r : Ordering). IsTrue (is_lt r && below_all R k es))
      (sym (o.trans k x e.0 less (is_less _ (and_parts _ _ p).0))) (below_more k x es less (and_parts _ _ p).1)

  find_below : (k : K) (es : List (K × V)) → IsTrue (below_all R k es) → find R k es ≡ None
  find_below k [] p = refl
  find_below k (e ∷ es) p = ap (λ (r : Ordering). cond (is_eq r) (Some e.1) (find R k es))
      (is_less _ (and_parts _ _ p).0) ∙ find_below k es (and_parts _ _ p).1

  -- the first entry is below a key that a later one is below
  first_below : (k : K) (e : K × V) (es : List (K × V)) (q : ℕ) → IsTrue (below_all R e.0 es) → q ≤ length es
      → HoldsAt (λ y. R y.0 k ≡ Less) (e ∷ es) q → R e.0 k ≡ Less
  first_below k e es zero p le less = less e
  first_below k e es (suc q) p le less = o.trans e.0 (get_or es q e).0 k (above e.0 es q e p (omega arith)) (less e)

  -- the last one before a place of the rest
  rest_before : (k : K) (e : K × V) (es : List (K × V)) (q : ℕ) → HoldsAt (λ y. R y.0 k ≡ Less) (e ∷ es) q → 0 < q
      → HoldsAt (λ y. R y.0 k ≡ Less) es (q - 1)
  rest_before k e es zero less lt = absurd (omega arith)
  rest_before k e es (suc q) less lt = subst (HoldsAt (λ (y : K × V). R y.0 k ≡ Less) es) (omega arith) (λ d. less d)

  -- behind the first entry, which is below the key, the key would stand one place earlier
  fits_rest : (k : K) (e : K × V) (es : List (K × V)) (q : ℕ) → IsTrue (is_sorted R (e ∷ es))
      → FitsAt R (e ∷ es) k (suc q) → (R k e.0 ≡ Greater) × FitsAt R es k q
  fits_rest k e es q p f =
      let here : HoldsAt (λ (y : K × V). R y.0 k ≡ Less) (e ∷ es) q =
      subst (HoldsAt (λ (y : K × V). R y.0 k ≡ Less) (e ∷ es)) (omega arith) (f.before (omega arith)) in
      let within : q ≤ length es = omega (arith, f.within) in (
        greater R o k e.0 (first_below k e es q (and_parts _ _ p).0 within here),
        record { within = within; before = rest_before k e es q here; after = λ less d. f.after (omega arith) d },
      )

  -- nothing goes where the key is not found
  where_none : (k : K) (es : List (K × V)) → find R k es ≡ None → where_key R (λ x. not (eq_by_cmp R k x)) es ≡ es
  where_none k [] none = refl
  where_none k (e ∷ es) none =
      elim (eq_by_cmp R k e.0) as (λ (b : Bool). cond b (Some e.1) (find R k es) ≡ None
      → cond (not b) (e ∷ where_key R (λ x. not (eq_by_cmp R k x)) es)
      (where_key R (λ x. not (eq_by_cmp R k x)) es) ≡ e ∷ es) [
        | true ↦ λ is. absurd (cc)
        | false ↦ λ is. ap (λ (l : List (K × V)). e ∷ l) (where_none k es is)
      ] none

  pub sorted_put : (k : K) (v : V) (es : List (K × V)) → IsTrue (is_sorted R es) → IsTrue (is_sorted R (put R k v es))
  sorted_put k v es p = from_test (is_sorted R (put R k v es))
      (is_sorted-put R o k v es (T_from_true (is_sorted R es) p))

  -- a search for the first entry that is not below the key found the key, or where it would stand
  pub fits_at : (k : K) (es : List (K × V)) (q : ℕ) → q ≤ length es
      → (0 < q → HoldsAt (λ e. is_lt (R e.0 k) ≡ true) es (q - 1))
      → (q < length es → HoldsAt (λ e. is_lt (R e.0 k) ≡ false) es q)
      → (q < length es → HoldsAt (λ e. R e.0 k ≢ Equal) es q) → FitsAt R es k q
  fits_at k es q le before after other = record {
    within = le;
    before = λ some d. is_less _ (before some d);
    after = λ less d. o.antisymm k (get_or es q d).0 ∙ ap ordering_reverse (is_greater _ (after less d) (other less d));
  }

  -- the key is not there
  pub put_fits : (k : K) (es : List (K × V)) (q : ℕ) → IsTrue (is_sorted R es) → FitsAt R es k q → (v : V)
      → put R k v es ≡ insert es q (k, v)
  put_fits k [] zero p f v = refl
  put_fits k [] (suc q) p f v = absurd (omega (arith, f.within))
  put_fits k (e ∷ es) zero p f v =
      ap (λ (r : Ordering). by_order r ((k, v) ∷ e ∷ es) ((e.0, v) ∷ es) (e ∷ put R k v es)) (f.after (omega arith) e)
  put_fits k (e ∷ es) (suc q) p f v =
      let rest = fits_rest k e es q p f in
      ap (λ (r : Ordering). by_order r ((k, v) ∷ e ∷ es) ((e.0, v) ∷ es) (e ∷ put R k v es)) rest.0
      ∙ ap (λ (l : List (K × V)). e ∷ l) (put_fits k es q (and_parts _ _ p).1 rest.1 v)

  pub find_fits : (k : K) (es : List (K × V)) (q : ℕ) → IsTrue (is_sorted R es) → FitsAt R es k q → find R k es ≡ None
  find_fits k [] q p f = refl
  find_fits k (e ∷ es) zero p f =
      let less : R k e.0 ≡ Less = f.after (omega arith) e in
      ap (λ (r : Ordering). cond (is_eq r) (Some e.1) (find R k es)) less
      ∙ find_below k es (below_more k e.0 es less (and_parts _ _ p).0)
  find_fits k (e ∷ es) (suc q) p f =
      let rest = fits_rest k e es q p f in
      ap (λ (r : Ordering). cond (is_eq r) (Some e.1) (find R k es)) rest.0
      ∙ find_fits k es q (and_parts _ _ p).1 rest.1

  pub where_fits : (k : K) (es : List (K × V)) (q : ℕ) → IsTrue (is_sorted R es) → FitsAt R es k q
      → where_key R (λ x. not (eq_by_cmp R k x)) es ≡ es
  where_fits k es q p f = where_none k es (find_fits k es q p f)

  -- the key stands there; keys that tie are the same
  module _ (same : (x y : K) → R x y ≡ Equal → x ≡ y) where
    -- behind the first entry it stands one place earlier
    stands_rest : (k : K) (e : K × V) (es : List (K × V)) (q : ℕ) → IsTrue (is_sorted R (e ∷ es))
        → StandsAt R (e ∷ es) k (suc q) → (R k e.0 ≡ Greater) × StandsAt R es k q
    stands_rest k e es q p s =
        let within : q < length es = omega (arith, s.within) in
        let less : R e.0 (get_or es q e).0 ≡ Less = above e.0 es q e (and_parts _ _ p).0 within in (
          greater R o k e.0 (subst (λ (x : K). R e.0 x ≡ Less) (sym (same _ _ (s.same e))) less),
          record { within = within; same = λ d. s.same d },
        )

    pub find_stands : (k : K) (es : List (K × V)) (q : ℕ) → IsTrue (is_sorted R es) → StandsAt R es k q → (w : K × V)
        → w ≡ get_or es q w → find R k es ≡ Some w.1
    find_stands k [] q p s w is = absurd (omega (arith, s.within))
    find_stands k (e ∷ es) zero p s w is = ap (λ (r : Ordering). cond (is_eq r) (Some e.1) (find R k es)) (s.same e)
        ∙ ap (λ (y : K × V). Some y.1) (sym is)
    find_stands k (e ∷ es) (suc q) p s w is =
        let rest = stands_rest k e es q p s in
        ap (λ (r : Ordering). cond (is_eq r) (Some e.1) (find R k es)) rest.0
        ∙ find_stands k es q (and_parts _ _ p).1 rest.1 w is

    pub put_stands : (k : K) (es : List (K × V)) (q : ℕ) → IsTrue (is_sorted R es) → StandsAt R es k q
        → (v : V) (w : K × V) → w ≡ get_or es q w → put R k v es ≡ set es q (k, v)
    put_stands k [] q p s v w is = absurd (omega (arith, s.within))
    put_stands k (e ∷ es) zero p s v w is =
        ap (λ (r : Ordering). by_order r ((k, v) ∷ e ∷ es) ((e.0, v) ∷ es) (e ∷ put R k v es)) (s.same e)
        ∙ ap (λ (x : K). (x, v) ∷ es) (sym (same _ _ (s.same e)))
    put_stands k (e ∷ es) (suc q) p s v w is =
        let rest = stands_rest k e es q p s in
        ap (λ (r : Ordering). by_order r ((k, v) ∷ e ∷ es) ((e.0, v) ∷ es) (e ∷ put R k v es)) rest.0
        ∙ ap (λ (l : List (K × V)). e ∷ l) (put_stands k es q (and_parts _ _ p).1 rest.1 v w is)

    pub where_stands : (k : K) (es : List (K × V)) (q : ℕ) → IsTrue (is_sorted R es) → StandsAt R es k q
        → where_key R (λ x. not (eq_by_cmp R k x)) es ≡ remove es q
    where_stands k [] q p s = absurd (omega (arith, s.within))
    where_stands k (e ∷ es) zero p s =
        let none : find R k es ≡ None = find_below k es
        (subst (λ (x : K). IsTrue (below_all R x es)) (sym (same _ _ (s.same e))) (and_parts _ _ p).0) in
        ap (λ (r : Ordering). cond (not (is_eq r)) (e ∷ where_key R (λ x. not (eq_by_cmp R k x)) es)
        (where_key R (λ x. not (eq_by_cmp R k x)) es)) (s.same e) ∙ where_none k es none
    where_stands k (e ∷ es) (suc q) p s =
        let rest = stands_rest k e es q p s in
        ap (λ (r : Ordering). cond (not (is_eq r)) (e ∷ where_key R (λ x. not (eq_by_cmp R k x)) es)
        (where_key R (λ x. not (eq_by_cmp R k x)) es)) rest.0
        ∙ ap (λ (l : List (K × V)). e ∷ l) (where_stands k es q (and_parts _ _ p).1 rest.1)
