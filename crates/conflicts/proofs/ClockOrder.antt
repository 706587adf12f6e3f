-- The order of clocks has the laws of an order and ties just at equal clocks, so a search in sorted names finds just
-- the named ones.
use Rattle.std.specs.Prelude.{◌≡◌, ℕ, ◌<◌, ◌≤◌, Bool, false, ◌||◌, ◌⊎◌, List, [], ◌∷◌, length, map, drop, Result, Ok}
use Rattle.std.specs.Prelude.{Err, is_ok, IsPermutation, IsSortedBy, refl}
use Rattle.std.specs.Borrow.{Bor}
use Rattle.std.specs.List.{list_any}
use Rattle.std.specs.List.Sorted.{IsBinarySearchResult, IsPartitionPoint, IsSearchInRange}
use Rattle.std.specs.Ordering.{MatchOrdering, is_eq, eq_by_cmp, nat_cmp}
use Rattle.std.specs.Cmp.{IsTotalOrder, nat_cmp_total, on_total, then_total, unsigned_ties, both_tied}
use Rattle.std.specs.Cmp.Lexicographic.{slice_cmp, lists_total, lists_ties, nat_list_cmp_total, texts_ties}
use Rattle.std.specs.declared.cmp.Ordering.{Ordering}
use Rattle.std.specs.declared.cmp.Ordering.TheVariants.{Less, Equal, Greater}
use Rattle.std.proofs.Common.{sym, ◌∙◌, ap, arith, get_or, inl, inr}
use Rattle.std.proofs.lemmas.Bool.{cases_lt}
use Rattle.std.proofs.lemmas.Cmp.{ranked}
use Rattle.std.proofs.lemmas.List.{drop_more, drop_all}
use Rattle.std.proofs.lemmas.List.Folds.{list_any_at, list_any_none}
use Rattle.std.proofs.lemmas.List.Sorted.{list_any-IsPermutation, searchable_from_sorted}
use Rattle.vector_rev.specs.Counts.{Uid}
use Rattle.vector_rev.specs.Clock.{Clock}
use Rattle.vector_rev.specs.Compare.{same_entry, same}
use Rattle.conflicts.specs.Names.{entry_cmp, clock_cmp, is_before, NamesThese}

-- ---- the order

entry_cmp_total : IsTotalOrder entry_cmp
entry_cmp_total =
    then_total (on_total (λ (e : Uid × ℕ). e.0) nat_list_cmp_total) (on_total (λ (e : Uid × ℕ). e.1) nat_cmp_total)

pub clock_cmp_total : IsTotalOrder clock_cmp
clock_cmp_total = on_total (λ (x : Clock). x.entries) (lists_total entry_cmp_total)

entries_tie : (e f : Uid × ℕ) → same_entry e f ≡ eq_by_cmp entry_cmp e f
entries_tie e f = both_tied _ _ _ _ (texts_ties e.0 f.0) (unsigned_ties e.1 f.1)

-- clocks tie where they are equal
clocks_tie : (x y : Clock) → same x y ≡ is_eq (clock_cmp x y)
clocks_tie x y = lists_ties entry_cmp entries_tie x.entries y.entries

-- ---- a walk along two lists of entries

-- where one list ends, the lengths decide
pub walked_out : (xs ys : List (Uid × ℕ)) (i : ℕ) (r : Ordering) → i ≤ length xs → i ≤ length ys → (length xs ≤ i)
    ⊎ (length ys ≤ i) → r ≡ nat_cmp (length xs) (length ys) →
    slice_cmp entry_cmp xs ys ≡ slice_cmp entry_cmp (drop i xs) (drop i ys) → r ≡ slice_cmp entry_cmp xs ys
walked_out xs ys i r low below ended is so_far = by_length r (ranked (length xs) (length ys) r is) ∙ sym so_far
  where
    ends : (a b : ℕ) → i ≤ a → i ≤ b → (a ≤ i) ⊎ (b ≤ i) → a ≤ b → a ≤ i
    ends a b l m (inl e) h = e
    ends a b l m (inr e) h = omega (arith, e, h)

    ends_right : (a b : ℕ) → i ≤ a → i ≤ b → (a ≤ i) ⊎ (b ≤ i) → b ≤ a → b ≤ i
    ends_right a b l m (inl e) h = omega (arith, e, h)
    ends_right a b l m (inr e) h = e

    by_length : (o : Ordering) → MatchOrdering o (length xs < length ys) (length xs ≡ length ys)
        (length ys < length xs) → o ≡ slice_cmp entry_cmp (drop i xs) (drop i ys)
    by_length Less less =
        let left : length xs ≤ i = ends (length xs) (length ys) low below ended (omega (arith, less)) in
        sym (λ k. slice_cmp entry_cmp (drop_all i xs left k) (drop_more ys i ([], 0) (omega (arith, less, low)) k))
    by_length Equal same_length =
        let left : length xs ≤ i = ends (length xs) (length ys) low below ended (omega (arith, same_length)) in
        let right : length ys ≤ i = omega (arith, same_length, left) in
        sym (λ k. slice_cmp entry_cmp (drop_all i xs left k) (drop_all i ys right k))
    by_length Greater greater =
        let right : length ys ≤ i = ends_right (length xs) (length ys) low below ended (omega (arith, greater)) in
        sym (λ k. slice_cmp entry_cmp (drop_more xs i ([], 0) (omega (arith, greater, below)) k)
        (drop_all i ys right k))

-- ---- sorted names

-- names that hold these clocks, in another order
pub names_sorted : (cs : List Clock) (ns sorted : List (Bor Clock)) → map (λ n. n.now) ns ≡ cs
    → IsPermutation ns sorted → NamesThese sorted cs
names_sorted cs ns sorted are moved c some =
    sym (list_any-IsPermutation (λ (n : Bor Clock). same n.now c) ns sorted moved) ∙ mapped ns
    ∙ ap (list_any (λ d. same d c)) are
  where
    mapped : (ns : List (Bor Clock)) → list_any (λ n. same n.now c) ns ≡ list_any (λ d. same d c) (map (λ n. n.now) ns)
    mapped [] = refl
    mapped (n ∷ ns) = ap (λ b. same n.now c || b) (mapped ns)

-- what a binary search in sorted names answers
pub search_decides : (ns : List (Bor Clock)) (c : Clock) (d : Bor Clock) (r : Result ℕ ℕ) → IsSortedBy is_before ns
    → IsSearchInRange r (length ns) → IsBinarySearchResult (λ n. clock_cmp n.now c) ns r
    → is_ok r ≡ list_any (λ n. same n.now c) ns
search_decides ns c d (Ok i) rising within at =
    sym (list_any_at (λ n. same n.now c) ns i d within (clocks_tie (get_or ns i d).now c ∙ ap is_eq (at d)))
search_decides ns c d (Err i) rising within parted =
    sym (list_any_none (λ n. same n.now c) ns (λ k e low. clocks_tie (get_or ns k e).now c
    ∙ apart k e low (cases_lt k i)))
  where
    sides : IsPartitionPoint (λ (n : Bor Clock). clock_cmp n.now c ≡ Less) (λ n. clock_cmp n.now c ≡ Greater) ns i
    sides = parted (searchable_from_sorted clock_cmp_total (λ (n : Bor Clock). n.now) ns c rising)

    apart : (k : ℕ) (e : Bor Clock) → k < length ns → (k < i) ⊎ (i ≤ k)
        → is_eq (clock_cmp (get_or ns k e).now c) ≡ false
    apart k e low (inl before) = ap is_eq (sides.0 k e (omega arith) before)
    apart k e low (inr behind) = ap is_eq (sides.1 k e behind low)
