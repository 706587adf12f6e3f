-- What a search by halves says of the entries of a clock.
use Rattle.std.proofs.Common.{◌≡◌, ℕ, ◌+◌, ◌-◌, T, length, get_or, sym, ◌∙◌, ap, subst, arith, Less, Greater}
use Rattle.std.specs.Prelude.{IsSortedBy, Ok, Err}
use Rattle.std.specs.List.Sorted.{IsBinarySearchResult, IsPartitionPoint, IsSearchInRange}
use Rattle.std.specs.Ordering.{is_lt, ordering_reverse}
use Rattle.std.specs.Cmp.Lexicographic.{nat_list_cmp_total}
use Rattle.std.specs.FinMap.Entries.{is_sorted}
use Rattle.std.proofs.lemmas.List.Sorted.{searchable_from_sorted}
use Rattle.u1_base.specs.Ids.{id_cmp}
use Rattle.u1_base.proofs.SameIds.{id_tied}
use Rattle.vector_rev.specs.Counts.{Uid, Entries, count_in}
use Rattle.vector_rev.specs.Clock.{Clock, count_of}
use Rattle.vector_rev.specs.inner.Standing.{FitsAt}
use Rattle.vector_rev.proofs.Truths.{first}
use Rattle.vector_rev.proofs.Putting.{greater, next_above, count_stands, put_fits}

-- no uid is below the one before it
rising : (es : Entries) → T (is_sorted id_cmp es) → IsSortedBy (λ e f. is_lt (id_cmp e.0 f.0)) es
rising es s k d low lt =
    let next : id_cmp (get_or es k d).0 (get_or es (k + 1) d).0 ≡ Less =
    subst (λ m. id_cmp (get_or es k d).0 (get_or es m d).0 ≡ Less) (omega arith)
    (next_above es k d d s (omega arith)) in
    ap is_lt (greater (get_or es (k + 1) d).0 (get_or es k d).0 next)

module _ (x : Clock) (u : Uid) (es : Entries) (same : es ≡ x.entries) where
  in_order : T (is_sorted id_cmp es)
  in_order = subst (λ (fs : Entries). T (is_sorted id_cmp fs)) (sym same) (first _ _ x.well)

  count_is : count_in es u ≡ count_of x u
  count_is = ap (λ (fs : Entries). count_in fs u) same

  -- the uid is found
  pub count_found : (i : ℕ) (e : Uid × ℕ) → IsSearchInRange (Ok i) (length es)
      → IsBinarySearchResult (λ f. id_cmp f.0 u) es (Ok i) → e ≡ get_or es i e → e.1 ≡ count_of x u
  count_found i e within at is =
      ap (λ (f : Uid × ℕ). f.1) is
      ∙ sym (count_stands u es i e in_order within (λ d. sym (id_tied _ u (at d)))) ∙ count_is

  -- it is not: it would stand where the search ends
  pub count_absent : (i : ℕ) → IsSearchInRange (Err i) (length es)
      → IsBinarySearchResult (λ f. id_cmp f.0 u) es (Err i) → 0 ≡ count_of x u
  count_absent i within parted = sym (put_fits u 0 es i in_order fits).1 ∙ count_is
    where
      sides : IsPartitionPoint (λ (f : Uid × ℕ). id_cmp f.0 u ≡ Less) (λ f. id_cmp f.0 u ≡ Greater) es i
      sides = parted (searchable_from_sorted nat_list_cmp_total (λ (f : Uid × ℕ). f.0) es u (rising es in_order))

      below : (v : Uid) → id_cmp v u ≡ Greater → id_cmp u v ≡ Less
      below v more = nat_list_cmp_total.antisymm u v ∙ ap ordering_reverse more

      fits : FitsAt u es i
      fits = record {
        above = record { within = within; after = λ lt d. below (get_or es i d).0 (sides.1 i d (omega arith) lt) };
        before = λ some d. sides.0 (i - 1) d (omega arith) (omega arith);
      }
