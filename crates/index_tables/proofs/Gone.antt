-- Taking pairs out.
use Rattle.std.proofs.Common.{◌≡◌, ℕ, ◌+◌, ◌-◌, ◌<◌, ◌≤◌, Bool, not, true, false, ◌&&◌, List, [], ◌∷◌, ◌++◌, length}
use Rattle.std.proofs.Common.{get_or, take, drop, zero, suc, refl, sym, subst, ◌∙◌, ap, arith, Less}
use Rattle.std.proofs.lemmas.List.{map-append, length-map, take_more}
use Rattle.std.proofs.lemmas.List.Elements.{filter_agree}
use Rattle.std.proofs.lemmas.List.Kept.{AllPairs-filter}
use Rattle.std.specs.List.{HoldsAt, filter, remove}
use Rattle.std.specs.Ordering.{is_lt}
use Rattle.index_tables.specs.Entries.{entries_of, has, same, is_of}
use Rattle.index_tables.specs.Order.{Entry, IsInOrder, entry_cmp}
use Rattle.index_tables.specs.Seen.{entry_of, seen}
use Rattle.index_tables.specs.declared.pair.Pair.{Pair}
use Rattle.index_tables.proofs.Lists.{filter-filter, not_or, map-remove, holds_map, holds_first, part_gone, part_kept}
use Rattle.index_tables.proofs.PutIn.{has-push}
use Rattle.index_tables.proofs.Sets.{filter_stands, filter_fits}
use Rattle.index_tables.proofs.TotalOrders.{entry_total, entry_same}

-- one key more
pub keys_gone : (old now new : List Entry) (keys : List (List (List ℕ))) (i : ℕ) (key : List (List ℕ)) (id : List ℕ)
    → i < length keys → key ≡ get_or keys i key
    → now ≡ filter (λ p. not (has (entries_of id (take i keys)) p)) old
    → new ≡ filter (λ p. not (same p (key, id))) now
    → new ≡ filter (λ p. not (has (entries_of id (take (i + 1) keys)) p)) old
keys_gone old now new keys i key id lt key_is now_is new_is =
    new_is
    ∙ ap (filter (λ p. not (same p (key, id)))) now_is
    ∙ filter-filter (λ p. not (same p (key, id))) (λ p. not (has (entries_of id (take i keys)) p)) old
    ∙ filter_agree (λ p. not (same p (key, id)) && not (has (entries_of id (take i keys)) p))
    (λ p. not (has (entries_of id (take (i + 1) keys)) p))
    (λ p. not_or (has (entries_of id (take i keys)) p) (same p (key, id))
    ∙ ap not (sym (ap (λ (l : List Entry). has l p) one_more ∙ has-push (entries_of id (take i keys)) (key, id) p))) old
  where
    one_more : entries_of id (take (i + 1) keys) ≡ entries_of id (take i keys) ++ (key, id) ∷ []
    one_more =
        ap (entries_of id) (take_more keys i key lt)
        ∙ map-append (λ k. (k, id)) (take i keys) (get_or keys i key ∷ [])
        ∙ ap (λ (k : List (List ℕ)). entries_of id (take i keys) ++ (k, id) ∷ []) (sym key_is)

pub none_gone : (ps : List Entry) (keys : List (List (List ℕ))) (id : List ℕ)
    → ps ≡ filter (λ p. not (has (entries_of id (take 0 keys)) p)) ps
none_gone [] keys id = refl
none_gone (p ∷ ps) keys id = ap (λ (l : List Entry). p ∷ l) (none_gone ps keys id)

pub order_kept : (f : Entry → Bool) (ps new : List Entry) → new ≡ filter f ps → IsInOrder ps → IsInOrder new
order_kept f ps new is order = subst IsInOrder (sym is) (AllPairs-filter (λ p q. entry_cmp p q ≡ Less) f ps order)

-- a search for an entry ended at a place
module _ (list : List Pair) (entry : Entry) (place : ℕ) (order : IsInOrder (seen list)) where
  -- where it stands
  pub stood : (place < length list) × HoldsAt (λ p. same (entry_of p) entry ≡ true) list place → (new : List Pair)
      → new ≡ remove list place → seen new ≡ filter (λ p. not (same p entry)) (seen list)
  stood at new new_is =
      ap seen new_is
      ∙ map-remove entry_of list place
      ∙ sym (filter_stands entry_cmp entry_total entry_same entry (seen list) place order
      (omega (arith, length-map list entry_of, at.0))
      (holds_map entry_of (λ p. same p entry ≡ true) list place at.0 at.1))

  -- where it does not
  pub stood_not : place ≤ length list
      → (0 < place → HoldsAt (λ p. is_lt (entry_cmp (entry_of p) entry) ≡ true) list (place - 1))
      → (place < length list → HoldsAt (λ p. is_lt (entry_cmp (entry_of p) entry) ≡ false) list place)
      → (place < length list → HoldsAt (λ p. same (entry_of p) entry ≡ false) list place)
      → seen list ≡ filter (λ p. not (same p entry)) (seen list)
  stood_not within before after other =
      let long = length-map list entry_of in
      sym (filter_fits entry_cmp entry_total entry_same entry (seen list) place order (omega (arith, long))
      (λ some. holds_map entry_of (λ p. is_lt (entry_cmp p entry) ≡ true) list (place - 1) (omega arith) (before some))
      (λ lt. holds_map entry_of (λ p. is_lt (entry_cmp p entry) ≡ false) list place (omega (arith, long))
      (after (omega (arith, long))))
      (λ lt. holds_map entry_of (λ p. same p entry ≡ false) list place (omega (arith, long))
      (other (omega (arith, long)))))

long_enough : {X : Type 0} (xs ys : List X) (n : ℕ) → n < length xs → n < length (take (suc n) xs ++ ys)
long_enough [] ys n lt = absurd (omega arith)
long_enough (x ∷ xs) ys zero lt = omega arith
long_enough (x ∷ xs) ys (suc n) lt = omega (arith, long_enough xs ys n (omega arith))

-- the pair at a place was looked at, and the places behind it before
module _ (list : List Pair) (old : List Entry) (id : List ℕ) (p n : ℕ) (b : Bool) (next : n ≡ p - 1) (some : 0 < p)
    (within : p ≤ length old)
    (kept : seen list ≡ take p old ++ filter (λ e. not (is_of id e)) (drop p old))
    (told : HoldsAt (λ x. is_of id (entry_of x) ≡ b) list n) where
  kept_suc : seen list ≡ take (suc n) old ++ filter (λ e. not (is_of id e)) (drop (suc n) old)
  kept_suc =
      let is : p ≡ suc n = omega arith in
      subst (λ (m : ℕ). seen list ≡ take m old ++ filter (λ e. not (is_of id e)) (drop m old)) is kept

  at : n < length list
  at = omega (
    arith,
    length-map list entry_of,
    ap length kept_suc,
    long_enough old (filter (λ e. not (is_of id e)) (drop (suc n) old)) n (omega arith),
  )

  told_old : HoldsAt (λ e. is_of id e ≡ b) old n
  told_old =
      holds_first (λ e. is_of id e ≡ b) old (filter (λ e. not (is_of id e)) (drop (suc n) old)) n (omega arith)
      (subst (λ (l : List Entry). HoldsAt (λ e. is_of id e ≡ b) l n) kept_suc
      (holds_map entry_of (λ e. is_of id e ≡ b) list n at told))

  pub id_gone : b ≡ true → (new : List Pair) → new ≡ remove list n
      → seen new ≡ take n old ++ filter (λ e. not (is_of id e)) (drop n old)
  id_gone found new new_is =
      ap seen new_is
      ∙ map-remove entry_of list n
      ∙ ap (λ (l : List Entry). remove l n) kept_suc
      ∙ part_gone (λ e. not (is_of id e)) old n (omega arith) (λ d. ap not (told_old d ∙ found))

  pub id_kept : b ≡ false → seen list ≡ take n old ++ filter (λ e. not (is_of id e)) (drop n old)
  id_kept other = kept_suc ∙ part_kept (λ e. not (is_of id e)) old n (omega arith) (λ d. ap not (told_old d ∙ other))
