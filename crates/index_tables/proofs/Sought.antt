-- Where a search for a key ended, and what it says of the whole list.
use Rattle.std.proofs.Common.{◌≡◌, ◌≢◌, ℕ, ◌-◌, ◌<◌, ◌≤◌, true, false, List, length, get_or, refl, subst, ◌∙◌, ap}
use Rattle.std.proofs.Common.{arith, inl, inr, Ordering, Less, Equal, Greater, nat_cmp}
use Rattle.std.proofs.lemmas.Bool.{cases_lt}
use Rattle.std.specs.Cmp.Lexicographic.{slice_cmp}
use Rattle.std.specs.List.{HoldsAt}
use Rattle.std.specs.Ordering.{is_lt, ordering_then}
use Rattle.index_tables.specs.Order.{Entry, key_cmp, entry_cmp, IsInOrder, FallsAt}
use Rattle.std.proofs.lemmas.List.{length-map}
use Rattle.index_tables.specs.Seen.{entry_of, seen}
use Rattle.index_tables.specs.declared.pair.Pair.{Pair}
use Rattle.index_tables.proofs.Lists.{holds_map, is_less}
use Rattle.index_tables.proofs.TotalOrders.{key_total}

-- what is below an entry whose key is below a key has a key below it
pub key_below : (p q : Entry) (key : List (List ℕ)) → entry_cmp p q ≡ Less → key_cmp q.0 key ≡ Less
    → key_cmp p.0 key ≡ Less
key_below p q key less below =
    elim (key_cmp p.0 q.0) as (λ (r : Ordering). key_cmp p.0 q.0 ≡ r
    → ordering_then r (slice_cmp nat_cmp p.1 q.1) ≡ Less → key_cmp p.0 key ≡ Less) [
      | Less ↦ λ k e. key_total.trans p.0 q.0 key k below
      | Equal ↦ λ k e. key_total.congr p.0 q.0 key k ∙ below
      | Greater ↦ λ k e. absurd (cc)
    ] refl less

module _ (ps : List Entry) (key : List (List ℕ)) (place : ℕ) (order : IsInOrder ps) (within : place ≤ length ps)
    (before : 0 < place → HoldsAt (λ p. is_lt (key_cmp p.0 key) ≡ true) ps (place - 1))
    (after : place < length ps → HoldsAt (λ p. is_lt (key_cmp p.0 key) ≡ false) ps place) where
  all_before : (k : ℕ) (d : Entry) → 0 ≤ k → k < place → key_cmp (get_or ps k d).0 key ≡ Less
  all_before k d low high =
      let last : key_cmp (get_or ps (place - 1) d).0 key ≡ Less = is_less _ (before (omega arith) d) in
      elim (cases_lt k (place - 1)) [
        | inl early ↦ key_below (get_or ps k d) (get_or ps (place - 1) d) key
            (order k (place - 1) d early (omega arith)) last
        | inr late ↦ subst (λ (n : ℕ). key_cmp (get_or ps n d).0 key ≡ Less) (omega arith) last
      ]

  none_after : (k : ℕ) (d : Entry) → place ≤ k → k < length ps → key_cmp (get_or ps k d).0 key ≢ Less
  none_after k d low high less =
      let not_less : is_lt (key_cmp (get_or ps place d).0 key) ≡ false = after (omega arith) d in
      let is_less_there : key_cmp (get_or ps place d).0 key ≡ Less = elim (cases_lt place k) [
        | inl later ↦ key_below (get_or ps place d) (get_or ps k d) key (order place k d later high) less
        | inr here ↦ subst (λ (n : ℕ). key_cmp (get_or ps n d).0 key ≡ Less) (omega arith) less
      ] in
      let yes = ap is_lt is_less_there in
      absurd (cc (yes, not_less))

  pub falls_at : FallsAt ps key place
  falls_at = record { within = within; before = all_before; after = none_after }

-- where a search in a list of pairs ended
pub sought : (list : List Pair) (key : List (List ℕ)) (place : ℕ) → IsInOrder (seen list) → place ≤ length list
    → (0 < place → HoldsAt (λ p. is_lt (key_cmp p.key key) ≡ true) list (place - 1))
    → (place < length list → HoldsAt (λ p. is_lt (key_cmp p.key key) ≡ false) list place)
    → FallsAt (seen list) key place
sought list key place order within before after =
    let long : length (seen list) ≡ length list = length-map list entry_of in
    falls_at (seen list) key place order (omega (arith, long))
    (λ some. holds_map entry_of (λ p. is_lt (key_cmp p.0 key) ≡ true) list (place - 1) (omega arith) (before some))
    (λ lt. holds_map entry_of (λ p. is_lt (key_cmp p.0 key) ≡ false) list place (omega (arith, long))
    (after (omega (arith, long))))
