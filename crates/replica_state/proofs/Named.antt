-- Indexes in the order of their names.
use Rattle.std.proofs.Common.{◌≡◌, ℕ, zero, suc, ◌+◌, ◌<◌, ◌≤◌, Bool, true, false, cond, not, T, List, [], ◌∷◌, length}
use Rattle.std.proofs.Common.{drop, get_or, set, arith, refl, sym, subst, ◌∙◌, ap, Ordering, Less, Equal, Greater}
use Rattle.std.proofs.lemmas.List.Elements.{All-cons, All-head, All-tail}
use Rattle.std.specs.Prelude.{slice_get}
use Rattle.std.specs.Cmp.Lexicographic.{nat_list_cmp_total}
use Rattle.std.specs.FinMap.Entries.{by_order, is_sorted, is_sorted-put, is_sorted-where_key, put}
use Rattle.std.specs.List.{All, insert}
use Rattle.std.specs.Ordering.{is_eq, is_lt, ordering_reverse}
use Rattle.conflicts.specs.State.{Text}
use Rattle.doc_table.specs.Listed.{without}
use Rattle.u1_base.specs.Ids.{id_cmp, same_id}
use Rattle.u1_base.proofs.SameIds.{equal_is, id_tied}
use Rattle.replica_state.specs.Held.{Names}
use Rattle.replica_state.specs.Named.{AreNamed}
use Rattle.replica_state.specs.inner.Named.{is_before, is_named, name_of, names_of, other_indexes, place_in}
use Rattle.replica_state.specs.inner.Named.{put_index}
use Rattle.replica_state.specs.Prepared.{names_with}
use Rattle.replica_state.specs.declared.index.Index.{Index}
use Rattle.replica_state.specs.declared.prepared.Replacement.{Replacement}
use Rattle.replica_state.specs.declared.prepared.Replacement.TheVariants.{Nothing, Document, NewIndex, NoIndex}
use Rattle.replica_state.proofs.Lists.{map_filter, named_is}

-- ---- an index more

pub names_put : (x : Index) (ys : List Index)
    → names_of (put_index x ys) ≡ put id_cmp x.name x.exprs.texts (names_of ys)
names_put x [] = refl
names_put x (y ∷ ys) = elim (id_cmp x.name y.name) as
    (λ (o : Ordering). id_cmp x.name y.name ≡ o
    → names_of (by_order o (x ∷ y ∷ ys) (x ∷ ys) (y ∷ put_index x ys))
    ≡ by_order o (name_of x ∷ names_of (y ∷ ys)) ((y.name, x.exprs.texts) ∷ names_of ys)
    (name_of y ∷ put id_cmp x.name x.exprs.texts (names_of ys))) [
      | Less ↦ λ e. refl
      | Equal ↦ λ e. ap (λ (n : Text). (n, x.exprs.texts) ∷ names_of ys) (id_tied x.name y.name e)
      | Greater ↦ λ e. ap (λ (l : Names). name_of y ∷ l) (names_put x ys)
    ] refl

pub all_put : (P : Index → Type 0) (x : Index) (ys : List Index) → P x → All P ys → All P (put_index x ys)
all_put P x [] here all = All-cons P x [] here all
all_put P x (y ∷ ys) here all = elim (id_cmp x.name y.name) as
    (λ (o : Ordering). All P (by_order o (x ∷ y ∷ ys) (x ∷ ys) (y ∷ put_index x ys))) [
      | Less ↦ All-cons P x (y ∷ ys) here all
      | Equal ↦ All-cons P x ys here (All-tail P y ys all)
      | Greater ↦ All-cons P y (put_index x ys) (All-head P y ys all) (all_put P x ys here (All-tail P y ys all))
    ]

-- ---- an index less

pub names_without : (n : Text) (ys : List Index) → names_of (other_indexes n ys) ≡ without n (names_of ys)
names_without n ys = map_filter name_of (λ (q : Text × List Text). not (same_id n q.0)) ys

-- ---- the order

pub order_put : (names : Names) (n : Text) (exprs : List Text) → T (is_sorted id_cmp names)
    → T (is_sorted id_cmp (put id_cmp n exprs names))
order_put names n exprs h = is_sorted-put id_cmp nat_list_cmp_total n exprs names h

pub order_without : (names : Names) (n : Text) → T (is_sorted id_cmp names) → T (is_sorted id_cmp (without n names))
order_without names n h = is_sorted-where_key id_cmp (λ other. not (same_id n other)) names h

-- ---- where an index is put

-- an index whose name is below that of x stands before x
behind : (x y : Index) → is_before x.name y ≡ true → id_cmp x.name y.name ≡ Greater
behind x y e = nat_list_cmp_total.antisymm x.name y.name ∙ flip (id_cmp y.name x.name) e
  where
    flip : (o : Ordering) → is_lt o ≡ true → ordering_reverse o ≡ Greater
    flip Less h = refl
    flip Equal h = absurd (cc)
    flip Greater h = absurd (cc)

-- and one that has neither a lower name nor that of x stands behind it
before : (x y : Index) → is_before x.name y ≡ false → same_id x.name y.name ≡ false → id_cmp x.name y.name ≡ Less
before x y e other = nat_list_cmp_total.antisymm x.name y.name
    ∙ flip (id_cmp y.name x.name) e (ap is_eq (sym (nat_list_cmp_total.antisymm x.name y.name)) ∙ other)
  where
    flip : (o : Ordering) → is_lt o ≡ false → is_eq (ordering_reverse o) ≡ false → ordering_reverse o ≡ Less
    flip Less h k = absurd (cc)
    flip Equal h k = absurd (cc)
    flip Greater h k = refl

pub inserted : (x : Index) (ys : List Index) → is_named x.name (slice_get ys (place_in x.name ys)) ≡ false
    → insert ys (place_in x.name ys) x ≡ put_index x ys
inserted x [] e = refl
inserted x (y ∷ ys) e =
    elim (is_before x.name y) as (λ (b : Bool). is_before x.name y ≡ b
    → is_named x.name (slice_get (y ∷ ys) (cond b (suc (place_in x.name ys)) 0)) ≡ false
    → insert (y ∷ ys) (cond b (suc (place_in x.name ys)) 0) x ≡ put_index x (y ∷ ys)) [
      | true ↦ λ b h. ap (λ (l : List Index). y ∷ l) (inserted x ys h)
          ∙ ap (λ (o : Ordering). by_order o (x ∷ y ∷ ys) (x ∷ ys) (y ∷ put_index x ys)) (sym (behind x y b))
      | false ↦ λ b h. ap (λ (o : Ordering). by_order o (x ∷ y ∷ ys) (x ∷ ys) (y ∷ put_index x ys))
          (sym (before x y b h))
    ] refl e

pub replaced : (x : Index) (ys : List Index) → is_named x.name (slice_get ys (place_in x.name ys)) ≡ true
    → set ys (place_in x.name ys) x ≡ put_index x ys
replaced x [] e = absurd (cc)
replaced x (y ∷ ys) e =
    elim (is_before x.name y) as (λ (b : Bool). is_before x.name y ≡ b
    → is_named x.name (slice_get (y ∷ ys) (cond b (suc (place_in x.name ys)) 0)) ≡ true
    → set (y ∷ ys) (cond b (suc (place_in x.name ys)) 0) x ≡ put_index x (y ∷ ys)) [
      | true ↦ λ b h. ap (λ (l : List Index). y ∷ l) (replaced x ys h)
          ∙ ap (λ (o : Ordering). by_order o (x ∷ y ∷ ys) (x ∷ ys) (y ∷ put_index x ys)) (sym (behind x y b))
      | false ↦ λ b h. ap (λ (o : Ordering). by_order o (x ∷ y ∷ ys) (x ∷ ys) (y ∷ put_index x ys))
          (sym (equal_is (id_cmp x.name y.name) h))
    ] refl e

-- where such an index stands, the place lies within the list
pub stands : (n : Text) (ys : List Index) (i : ℕ) → is_named n (slice_get ys i) ≡ true → i < length ys
stands n [] i e = absurd (cc)
stands n (y ∷ ys) zero e = omega arith
stands n (y ∷ ys) (suc i) e = omega (arith, stands n ys i e)

pub place_within : (n : Text) (ys : List Index) → place_in n ys ≤ length ys
place_within n [] = omega arith
place_within n (y ∷ ys) = elim (is_before n y) as (λ (b : Bool). cond b (suc (place_in n ys)) 0 ≤ suc (length ys)) [
  | true ↦ omega (arith, place_within n ys)
  | false ↦ omega arith
]

-- ---- how many names are below one

one_more : (n : Text) (xs : List Index) (i : ℕ) (x : Index) → i < length xs → x ≡ get_or xs i x → is_before n x ≡ true
    → place_in n (drop i xs) ≡ suc (place_in n (drop (suc i) xs))
one_more n [] i x lt is e = absurd (omega arith)
one_more n (y ∷ ys) zero x lt is e = ap (λ (b : Bool). cond b (suc (place_in n ys)) 0)
    (ap (λ (z : Index). is_before n z) (sym is) ∙ e)
one_more n (y ∷ ys) (suc i) x lt is e = one_more n ys i x (omega (arith, lt)) is e

none_more : (n : Text) (xs : List Index) (i : ℕ) (x : Index) → i < length xs → x ≡ get_or xs i x
    → is_before n x ≡ false → place_in n (drop i xs) ≡ 0
none_more n [] i x lt is e = absurd (omega arith)
none_more n (y ∷ ys) zero x lt is e = ap (λ (b : Bool). cond b (suc (place_in n ys)) 0)
    (ap (λ (z : Index). is_before n z) (sym is) ∙ e)
none_more n (y ∷ ys) (suc i) x lt is e = none_more n ys i x (omega (arith, lt)) is e

-- one name more is below
pub counted : (n : Text) (xs : List Index) (i m place : ℕ) (x : Index) → m ≡ i + 1 → i < length xs → x ≡ get_or xs i x
    → is_before n x ≡ true → place_in n xs ≡ place + place_in n (drop i xs)
    → place_in n xs ≡ (place + 1) + place_in n (drop m xs)
counted n xs i m place x next lt is e so_far =
    let at : m ≡ suc i = omega (arith, next) in
    let step : place_in n (drop i xs) ≡ suc (place_in n (drop m xs)) = one_more n xs i x lt is e
    ∙ ap (λ (k : ℕ). suc (place_in n (drop k xs))) (sym at) in
    omega (arith, so_far, step)

-- the next one is not
pub stopped : (n : Text) (xs : List Index) (i place : ℕ) (x : Index) → i < length xs → x ≡ get_or xs i x
    → is_before n x ≡ false → place_in n xs ≡ place + place_in n (drop i xs) → place ≡ place_in n xs
stopped n xs i place x lt is e so_far =
    let step : place_in n (drop i xs) ≡ 0 = none_more n xs i x lt is e in
    omega (arith, so_far, step)

none_left : (n : Text) (xs : List Index) (i : ℕ) → length xs ≤ i → place_in n (drop i xs) ≡ 0
none_left n [] zero le = refl
none_left n [] (suc i) le = refl
none_left n (y ∷ ys) zero le = absurd (omega (arith, le))
none_left n (y ∷ ys) (suc i) le = none_left n ys i (omega (arith, le))

-- there is no further one
pub ended : (n : Text) (xs : List Index) (i place : ℕ) → length xs ≤ i → place_in n xs ≡ place + place_in n (drop i xs)
    → place ≡ place_in n xs
ended n xs i place le so_far =
    let step : place_in n (drop i xs) ≡ 0 = none_left n xs i le in
    omega (arith, so_far, step)

-- ---- what a replacement leaves is in order

pub order_with : (r : Replacement) (names : Names) → T (is_sorted id_cmp names)
    → T (is_sorted id_cmp (names_with r names))
order_with Nothing names h = h
order_with (Document id set changes) names h = h
order_with (NewIndex index) names h = order_put names index.name index.exprs.texts h
order_with (NoIndex name) names h = order_without names name h

pub order_after : (r : Replacement) (xs ys : List Index) → names_of xs ≡ names_with r (names_of ys) → AreNamed ys
    → AreNamed xs
order_after r xs ys e h =
    subst (λ (names : Names). T (is_sorted id_cmp names)) (sym (named_is xs ∙ e))
    (order_with r (names_of ys) (subst (λ (names : Names). T (is_sorted id_cmp names)) (named_is ys) h))
