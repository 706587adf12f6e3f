-- Putting in the pairs of a list, the last one first.
use Rattle.std.proofs.Common.{◌≡◌, ℕ, ◌+◌, ◌-◌, ◌<◌, ◌≤◌, Bool, suc, true, false, ◌||◌, List, [], ◌∷◌, ◌++◌, length}
use Rattle.std.proofs.Common.{get_or, refl, sym, subst, ◌∙◌, ap, arith, ◌≢◌, Ordering, Less, Equal, Greater}
use Rattle.std.proofs.lemmas.List.{map-append, length-map, get_or-map}
use Rattle.std.proofs.lemmas.List.Edits.{length-insert}
use Rattle.std.proofs.lemmas.List.Folds.{list_any-append}
use Rattle.std.specs.Cmp.{eq_by_cmp_equiv, tied_itself}
use Rattle.std.specs.List.{AllPairs, HoldsAt, insert}
use Rattle.std.specs.Ordering.{is_eq, is_lt}
use Rattle.index_tables.specs.Entries.{AreDistinct, AreNew, entries_of, has, same}
use Rattle.index_tables.specs.Order.{Entry, IsInOrder, entry_cmp}
use Rattle.index_tables.specs.Seen.{entry_of, seen}
use Rattle.index_tables.specs.declared.pair.Pair.{Pair}
use Rattle.index_tables.proofs.Lists.{or_comm, or_assoc, pairs_first, map-insert, list_any-insert, holds_map}
use Rattle.index_tables.proofs.Sets.{rising_insert}
use Rattle.u1_base.proofs.SameIds.{equal_is}
use Rattle.index_tables.proofs.Laws.{same_self}
use Rattle.index_tables.proofs.TotalOrders.{entry_total, entry_same}

pub or_false : (b : Bool) → (b || false) ≡ b
or_false true = refl
or_false false = refl

-- what a list with one entry more has
pub has-push : (ps : List Entry) (x p : Entry) → has (ps ++ x ∷ []) p ≡ (has ps p || same p x)
has-push ps x p = list_any-append (same p) ps (x ∷ []) ∙ ap (λ (b : Bool). has ps p || b) (or_false (same p x))

-- the last of distinct entries is none of the others
pub last_is_other : (ps : List Entry) (x p : Entry) → AreDistinct (ps ++ x ∷ []) → has ps p ≡ true → same p x ≡ false
last_is_other [] x p distinct there = absurd (cc)
last_is_other (y ∷ ps) x p distinct there =
    elim (same p y) as (λ (b : Bool). same p y ≡ b → (b || has ps p) ≡ true → same p x ≡ false) [
      | true ↦ λ is h.
          let apart : same y (get_or (ps ++ x ∷ []) (length ps) x) ≡ false =
          distinct 0 (suc (length ps)) x (omega arith) (omega (arith, longer ps)) in
          (eq_by_cmp_equiv entry_total).congr p y x is ∙ subst (λ (z : Entry). same y z ≡ false) (at_end ps) apart
      | false ↦ λ is h. last_is_other ps x p (λ i j d lt le. distinct (suc i) (suc j) d (omega arith) (omega arith)) h
    ] refl there
  where
    longer : (l : List Entry) → length (l ++ x ∷ []) ≡ length l + 1
    longer [] = refl
    longer (z ∷ l) = omega (arith, longer l)

    at_end : (l : List Entry) → get_or (l ++ x ∷ []) (length l) x ≡ x
    at_end [] = refl
    at_end (z ∷ l) = at_end l

-- one pair is taken from the end of `pairs`, which leaves `rest`, and put into a list of `old`, which gives `new`
module _ (old new first whole : List Entry) (pairs rest : List Pair) (pair : Pair) (taken : pairs ≡ rest ++ pair ∷ [])
    (distinct : AreDistinct (seen pairs)) (fresh : AreNew old (seen pairs)) where
  seen_taken : seen pairs ≡ seen rest ++ entry_of pair ∷ []
  seen_taken = ap seen taken ∙ map-append entry_of rest (pair ∷ [])

  has_taken : (p : Entry) → has (seen pairs) p ≡ (has (seen rest) p || same p (entry_of pair))
  has_taken p = ap (λ (l : List Entry). has l p) seen_taken ∙ has-push (seen rest) (entry_of pair) p

  pub is_fresh : has old (entry_of pair) ≡ false
  is_fresh = fresh (entry_of pair) (has_taken (entry_of pair)
      ∙ ap (λ (b : Bool). has (seen rest) (entry_of pair) || b) (same_self (entry_of pair))
      ∙ or_comm (has (seen rest) (entry_of pair)) true)

  pub rest_distinct : AreDistinct (seen rest)
  rest_distinct = pairs_first (λ p q. same p q ≡ false) (seen rest) (entry_of pair ∷ [])
      (subst AreDistinct seen_taken distinct)

  module _ (members : (p : Entry) → has new p ≡ (has old p || same p (entry_of pair))) where
    pub rest_fresh : AreNew new (seen rest)
    rest_fresh p there =
        let other : same p (entry_of pair) ≡ false =
        last_is_other (seen rest) (entry_of pair) p (subst AreDistinct seen_taken distinct) there in
        let not_there : has old p ≡ false =
        fresh p (has_taken p ∙ ap (λ (b : Bool). b || same p (entry_of pair)) there) in
        members p ∙ ap (λ (b : Bool). b || same p (entry_of pair)) not_there ∙ other

    pub all_members : ((p : Entry) → (has old p || has (seen pairs) p) ≡ (has first p || has whole p)) → (p : Entry)
        → (has new p || has (seen rest) p) ≡ (has first p || has whole p)
    all_members before p =
        ap (λ (b : Bool). b || has (seen rest) p) (members p)
        ∙ sym (or_assoc (has old p) (same p (entry_of pair)) (has (seen rest) p))
        ∙ ap (λ (b : Bool). has old p || b) (or_comm (same p (entry_of pair)) (has (seen rest) p) ∙ sym (has_taken p))
        ∙ before p

-- a pair is put where a search for it ended
module _ (list new : List Pair) (pair : Pair) (key : List (List ℕ)) (place : ℕ) (key_is : key ≡ pair.key)
    (within : place ≤ length list) (new_is : new ≡ insert list place pair) where
  seen_new : seen new ≡ insert (seen list) place (entry_of pair)
  seen_new = ap seen new_is ∙ map-insert entry_of list place pair

  pub put_members : (p : Entry) → has (seen new) p ≡ (has (seen list) p || same p (entry_of pair))
  put_members p = ap (λ (l : List Entry). has l p) seen_new
      ∙ list_any-insert (same p) (seen list) place (entry_of pair) (omega (arith, length-map list entry_of))

  pub put_count : length (seen new) ≡ length (seen list) + 1
  put_count = ap length seen_new
      ∙ length-insert (seen list) place (entry_of pair) (omega (arith, length-map list entry_of))

  pub put_order : IsInOrder (seen list)
      → (0 < place → HoldsAt (λ p. is_lt (entry_cmp (entry_of p) (key, pair.id)) ≡ true) list (place - 1))
      → (place < length list → HoldsAt (λ p. is_lt (entry_cmp (entry_of p) (key, pair.id)) ≡ false) list place)
      → has (seen list) (entry_of pair) ≡ false → IsInOrder (seen new)
  put_order order before after fresh =
      let k : (key, pair.id) ≡ entry_of pair = ap (λ (l : List (List ℕ)). (l, pair.id)) key_is in
      subst IsInOrder (sym seen_new)
      (rising_insert entry_cmp entry_total entry_same (entry_of pair) (seen list) place order
      (omega (arith, length-map list entry_of))
      (λ some. subst (λ (e : Entry). HoldsAt (λ p. is_lt (entry_cmp p e) ≡ true) (seen list) (place - 1)) k
      (holds_map entry_of (λ p. is_lt (entry_cmp p (key, pair.id)) ≡ true) list (place - 1) (omega arith)
      (before some)))
      (λ lt. subst (λ (e : Entry). HoldsAt (λ p. is_lt (entry_cmp p e) ≡ false) (seen list) place) k
      (holds_map entry_of (λ p. is_lt (entry_cmp p (key, pair.id)) ≡ false) list place
      (omega (arith, length-map list entry_of)) (after (omega (arith, length-map list entry_of)))))
      fresh)

-- the entries of distinct keys are distinct
pub entries_distinct : (id : List ℕ) (keys : List (List (List ℕ))) → AllPairs (λ key other. key ≢ other) keys
    → AreDistinct (entries_of id keys)
entries_distinct id keys distinct i j d lt le =
    let long : length (entries_of id keys) ≡ length keys = length-map keys (λ (k : List (List ℕ)). (k, id)) in
    let one : get_or (entries_of id keys) i d ≡ (get_or keys i d.0, id) =
    get_or-map (λ (k : List (List ℕ)). (k, id)) keys i d.0 d (omega (arith, long)) in
    let other : get_or (entries_of id keys) j d ≡ (get_or keys j d.0, id) =
    get_or-map (λ (k : List (List ℕ)). (k, id)) keys j d.0 d (omega (arith, long)) in
    elim (same (get_or (entries_of id keys) i d) (get_or (entries_of id keys) j d)) as
    (λ (b : Bool). same (get_or (entries_of id keys) i d) (get_or (entries_of id keys) j d) ≡ b → b ≡ false) [
      | true ↦ λ is. absurd (distinct i j d.0 lt (omega (arith, long))
          (ap (λ (e : Entry). e.0) (sym one ∙ entry_same _ _ (equal_is _ is) ∙ other)))
      | false ↦ λ is. refl
    ] refl
