-- What the filters are in the field's own terms: an answer goes by least key and then by id, and keys rise.
use Rattle.std.proofs.Common.{◌≡◌, ℕ, Bool, true, false, cond, not, ◌&&◌, ◌||◌, List, [], ◌∷◌, map, get_or, All}
use Rattle.std.proofs.Common.{AllPairs, Result, Ok, Err, IfOk, suc, refl, sym, subst, ◌∙◌, ap, ap₂, arith, inl, inr}
use Rattle.std.proofs.Common.{Ordering, Less, Equal, Greater}
use Rattle.std.proofs.lemmas.Bool.{cases_Bool}
use Rattle.std.proofs.lemmas.List.Elements.{All-filter, All-head, All-tail, All-cons, filter_passes}
use Rattle.std.proofs.lemmas.List.Kept.{AllPairs-cons, AllPairs-filter}
use Rattle.std.specs.Cmp.{IsTotalOrder, eq_by_cmp_equiv, tied_itself}
use Rattle.std.specs.Cmp.Lexicographic.{nat_list_cmp_total}
use Rattle.std.specs.List.{filter, list_any}
use Rattle.std.specs.Ordering.{eq_by_cmp, is_eq, is_le, ordering_then}
use Rattle.u1_base.specs.Ids.{id_cmp}
use Rattle.u1_base.proofs.Booleans.{both, first, second, not_true}
use Rattle.index_tables.specs.Entries.{has, is_of, same}
use Rattle.index_tables.specs.Order.{Entry, IsInOrder, Key, entry_cmp, key_cmp}
use Rattle.index_tables.proofs.Laws.{has-filter, same_is}
use Rattle.index_tables.proofs.TotalOrders.{entry_total, key_same, key_total}
use Rattle.query_range.specs.Answers.{AreKeys, IsAnswer, IsLeastKey, answer, firsts, keys_of}
use Rattle.query_range.proofs.Walks.{ids_of}

-- two tests that hold together are one
pub same_tests : (a b : Bool) → (a ≡ true → b ≡ true) → (b ≡ true → a ≡ true) → a ≡ b
same_tests true b f g = sym (f refl)
same_tests false true f g = g refl
same_tests false false f g = refl

-- ---- what is kept once is what was there

-- a filter that keeps what passes a test changes nothing for the test
any-filter : {X : Type 0} (p q : X → Bool) (xs : List X) → ((x : X) → p x ≡ true → q x ≡ true)
    → list_any p (filter q xs) ≡ list_any p xs
any-filter p q [] keeps = refl
any-filter p q (x ∷ xs) keeps = elim (cases_Bool (q x)) [
  | inl holds ↦ ap (λ (b : Bool). list_any p (cond b (x ∷ filter q xs) (filter q xs))) holds
      ∙ ap (λ (b : Bool). p x || b) (any-filter p q xs keeps)
  | inr fails ↦
      ap (λ (b : Bool). list_any p (cond b (x ∷ filter q xs) (filter q xs))) fails
      ∙ any-filter p q xs keeps
      ∙ ap (λ (b : Bool). b || list_any p xs) (sym (fails_too (p x) (q x) (keeps x) fails))
]
  where
    fails_too : (a b : Bool) → (a ≡ true → b ≡ true) → b ≡ false → a ≡ false
    fails_too true b f apart = absurd (cc (f refl, apart))
    fails_too false b f apart = refl

module _ {X : Type 0} {R : X → X → Ordering} (o : IsTotalOrder R) where
  any-firsts : (z : X) (xs : List X) → list_any (eq_by_cmp R z) (firsts R xs) ≡ list_any (eq_by_cmp R z) xs
  any-firsts z [] = refl
  any-firsts z (x ∷ xs) = elim (cases_Bool (eq_by_cmp R z x)) [
    | inl holds ↦ ap (λ (b : Bool). b || list_any (eq_by_cmp R z) (filter (λ y. not (eq_by_cmp R y x)) (firsts R xs)))
        holds ∙ ap (λ (b : Bool). b || list_any (eq_by_cmp R z) xs) (sym holds)
    | inr fails ↦
        ap (λ (b : Bool). eq_by_cmp R z x || b)
        (any-filter (eq_by_cmp R z) (λ y. not (eq_by_cmp R y x)) (firsts R xs)
        (λ y tie. ap not (sym ((eq_by_cmp_equiv o).congr z y x tie) ∙ fails)) ∙ any-firsts z xs)
  ]

all-firsts : {X : Type 0} (R : X → X → Ordering) (P : X → Type 0) (xs : List X) → All P xs → All P (firsts R xs)
all-firsts R P [] all = λ k d lt. absurd (omega arith)
all-firsts R P (x ∷ xs) all = All-cons P x (filter (λ y. not (eq_by_cmp R y x)) (firsts R xs)) (All-head P x xs all)
    (All-filter (λ y. not (eq_by_cmp R y x)) P (firsts R xs) (all-firsts R P xs (All-tail P x xs all)))

-- ---- the documents of an answer

ids_wanted : (wanted : Key → Bool) (id : List ℕ) (ps : List Entry)
    → list_any (eq_by_cmp id_cmp id) (ids_of (filter (λ p. wanted p.0) ps))
    ≡ list_any (λ p. is_of id p && wanted p.0) ps
ids_wanted wanted id [] = refl
ids_wanted wanted id (p ∷ ps) = elim (cases_Bool (wanted p.0)) [
  | inl holds ↦
      ap (λ (b : Bool). list_any (eq_by_cmp id_cmp id)
      (ids_of (cond b (p ∷ filter (λ q. wanted q.0) ps) (filter (λ q. wanted q.0) ps)))) holds
      ∙ ap₂ (λ (a b : Bool). a || b) (and_true (is_of id p) ∙ ap (λ (b : Bool). is_of id p && b) (sym holds))
      (ids_wanted wanted id ps)
  | inr fails ↦
      ap (λ (b : Bool). list_any (eq_by_cmp id_cmp id)
      (ids_of (cond b (p ∷ filter (λ q. wanted q.0) ps) (filter (λ q. wanted q.0) ps)))) fails
      ∙ ids_wanted wanted id ps
      ∙ ap (λ (b : Bool). b || list_any (λ q. is_of id q && wanted q.0) ps)
      (and_false (is_of id p) ∙ ap (λ (b : Bool). is_of id p && b) (sym fails))
]
  where
    and_true : (b : Bool) → b ≡ (b && true)
    and_true true = refl
    and_true false = refl

    and_false : (b : Bool) → false ≡ (b && false)
    and_false true = refl
    and_false false = refl

-- ---- their order

-- a document's least key in a list
record Least (ps : List Entry) (id : List ℕ) (key : Key) : Type 0 where
  there : has ps (key, id) ≡ true
  least : (other : Key) → has ps (other, id) ≡ true → is_le (key_cmp key other) ≡ true

abbrev ComesBefore : List Entry → List ℕ → List ℕ → Type 0
ComesBefore ps id later = (key other : Key) → Least ps id key → Least ps later other
    → entry_cmp (key, id) (other, later) ≡ Less

has_cases : (a b : Bool) → (a || b) ≡ true → a ≡ false → b ≡ true
has_cases true b h apart = absurd (cc)
has_cases false b h apart = h

or_right : (a b : Bool) → b ≡ true → (a || b) ≡ true
or_right true b h = refl
or_right false b h = h

-- all entries behind the first are above it
above_first : (q : Entry) (ps : List Entry) → All (λ p. entry_cmp q p ≡ Less) ps → (e : Entry) → has ps e ≡ true
    → entry_cmp q e ≡ Less
above_first q [] all e there = absurd (cc)
above_first q (p ∷ ps) all e there = elim (cases_Bool (same e p)) [
  | inl is ↦ subst (λ (x : Entry). entry_cmp q x ≡ Less) (sym (same_is e p is))
      (All-head (λ x. entry_cmp q x ≡ Less) p ps all)
  | inr fails ↦ above_first q ps (All-tail (λ x. entry_cmp q x ≡ Less) p ps all) e
      (has_cases (same e p) (has ps e) there fails)
]

other_id : (key other : Key) (id first_id : List ℕ) → eq_by_cmp id_cmp id first_id ≡ false
    → same (key, id) (other, first_id) ≡ false
other_id key other id first_id apart = elim (cases_Bool (same (key, id) (other, first_id))) [
  | inl is ↦
      let one : id ≡ first_id = ap (λ (e : Entry). e.1) (same_is (key, id) (other, first_id) is) in
      let tie : eq_by_cmp id_cmp id first_id ≡ true =
      ap is_eq (subst (λ (x : List ℕ). id_cmp id x ≡ Equal) one (tied_itself nat_list_cmp_total id)) in
      absurd (cc (tie, apart))
  | inr other_one ↦ other_one
]

-- a document that is not the first entry's has its least key behind it
least_behind : (q : Entry) (ps : List Entry) (id : List ℕ) (key : Key) → eq_by_cmp id_cmp id q.1 ≡ false
    → Least (q ∷ ps) id key → Least ps id key
least_behind q ps id key apart l = record {
  there = has_cases (same (key, id) q) (has ps (key, id)) l.there (other_id key q.0 id q.1 apart);
  least = λ other there. l.least other (or_right (same (other, id) q) (has ps (other, id)) there);
}

-- the first entry comes before the least entry of another document
first_before : (q : Entry) (ps : List Entry) (later : List ℕ) → All (λ p. entry_cmp q p ≡ Less) ps
    → eq_by_cmp id_cmp later q.1 ≡ false → ComesBefore (q ∷ ps) q.1 later
first_before q ps later above apart key other l m =
    let behind : entry_cmp q (other, later) ≡ Less =
    above_first q ps above (other, later) (least_behind q ps later other apart m).there in
    elim (key_cmp key q.0) as (λ (r : Ordering). key_cmp key q.0 ≡ r → is_le r ≡ true
    → entry_cmp (key, q.1) (other, later) ≡ Less) [
      | Less ↦ λ is le. entry_total.trans (key, q.1) q (other, later)
          (ap (λ (r : Ordering). ordering_then r (id_cmp q.1 q.1)) is) behind
      | Equal ↦ λ is le. subst (λ (k : Key). entry_cmp (k, q.1) (other, later) ≡ Less)
          (sym (key_same key q.0 is)) behind
      | Greater ↦ λ is le. absurd (cc)
    ] refl (l.least q.0 (ap (λ (b : Bool). b || has ps q) (ap is_eq (tied_itself entry_total q))))

by_least : (ps : List Entry) → IsInOrder ps → AllPairs (ComesBefore ps) (firsts id_cmp (ids_of ps))
by_least [] order = λ i j d lt le. absurd (omega arith)
by_least (q ∷ ps) order =
    let rest = filter (λ y. not (eq_by_cmp id_cmp y q.1)) (firsts id_cmp (ids_of ps)) in
    let others : All (λ y. not (eq_by_cmp id_cmp y q.1) ≡ true) rest =
    filter_passes (λ y. not (eq_by_cmp id_cmp y q.1)) (firsts id_cmp (ids_of ps)) in
    let tail : AllPairs (ComesBefore ps) rest =
    AllPairs-filter (ComesBefore ps) (λ y. not (eq_by_cmp id_cmp y q.1)) (firsts id_cmp (ids_of ps))
    (by_least ps (λ i j d lt le. order (suc i) (suc j) d (omega arith) (omega arith))) in
    AllPairs-cons (ComesBefore (q ∷ ps)) q.1 rest
    (λ k d lt. first_before q ps (get_or rest k d) (λ j e below. order 0 (suc j) e (omega arith) (omega arith))
    (not_true (eq_by_cmp id_cmp (get_or rest k d) q.1) (others k d lt)))
    (λ i j d lt le key other l m.
    tail i j d lt le key other
    (least_behind q ps (get_or rest i d) key
    (not_true (eq_by_cmp id_cmp (get_or rest i d) q.1) (others i d (omega arith))) l)
    (least_behind q ps (get_or rest j d) other (not_true (eq_by_cmp id_cmp (get_or rest j d) q.1) (others j d le)) m))

least_wanted : (wanted : Key → Bool) (ps : List Entry) (id : List ℕ) (key : Key) → IsLeastKey wanted ps id key
    → Least (filter (λ p. wanted p.0) ps) id key
least_wanted wanted ps id key l = record {
  there = has-filter (λ p. wanted p.0) ps (key, id) ∙ both (wanted key) (has ps (key, id)) l.is_wanted l.there;
  least = λ other there.
      let is : (wanted other && has ps (other, id)) ≡ true = sym (has-filter (λ p. wanted p.0) ps (other, id)) ∙ there
      in
      l.least other (second (wanted other) (has ps (other, id)) is) (first (wanted other) (has ps (other, id)) is);
}

-- THE ANSWER: the documents with a wanted key and no others, by least wanted key and then by id
pub answer_is : (wanted : Key → Bool) (ps : List Entry) → IsInOrder ps → IsAnswer wanted ps (answer wanted ps)
answer_is wanted ps order = record {
  members = λ id. any-firsts nat_list_cmp_total id (ids_of (filter (λ p. wanted p.0) ps)) ∙ ids_wanted wanted id ps;
  order = λ i j d lt le key other l m.
      by_least (filter (λ p. wanted p.0) ps)
      (AllPairs-filter (λ p q. entry_cmp p q ≡ Less) (λ p. wanted p.0) ps order) i j d lt le key other
      (least_wanted wanted ps (get_or (answer wanted ps) i d) key l)
      (least_wanted wanted ps (get_or (answer wanted ps) j d) other m);
}

-- ---- the keys of a table

not_below : (q p : Entry) → entry_cmp q p ≡ Less → is_le (key_cmp q.0 p.0) ≡ true
not_below q p less = by (key_cmp q.0 p.0) less
  where
    by : (r : Ordering) → ordering_then r (id_cmp q.1 p.1) ≡ Less → is_le r ≡ true
    by Less h = refl
    by Equal h = refl
    by Greater h = absurd (cc)

-- they rise
keys_rise : (ps : List Entry) → IsInOrder ps → AllPairs (λ a b. key_cmp a b ≡ Less) (keys_of ps)
keys_rise [] order = λ i j d lt le. absurd (omega arith)
keys_rise (q ∷ ps) order =
    let keys = firsts key_cmp (map (λ p. p.0) ps) in
    let rest = filter (λ y. not (eq_by_cmp key_cmp y q.0)) keys in
    let others : All (λ y. not (eq_by_cmp key_cmp y q.0) ≡ true) rest =
    filter_passes (λ y. not (eq_by_cmp key_cmp y q.0)) keys in
    let above : All (λ y. is_le (key_cmp q.0 y) ≡ true) rest =
    All-filter (λ y. not (eq_by_cmp key_cmp y q.0)) (λ y. is_le (key_cmp q.0 y) ≡ true) keys
    (all-firsts key_cmp (λ y. is_le (key_cmp q.0 y) ≡ true) (map (λ p. p.0) ps)
    (mapped ps (λ k d lt. not_below q (get_or ps k d) (order 0 (suc k) d (omega arith) (omega arith))))) in
    AllPairs-cons (λ a b. key_cmp a b ≡ Less) q.0 rest
    (λ k d lt. strictly (get_or rest k d) (above k d lt)
    (not_true (eq_by_cmp key_cmp (get_or rest k d) q.0) (others k d lt)))
    (AllPairs-filter (λ a b. key_cmp a b ≡ Less) (λ y. not (eq_by_cmp key_cmp y q.0)) keys
    (keys_rise ps (λ i j d lt le. order (suc i) (suc j) d (omega arith) (omega arith))))
  where
    mapped : (es : List Entry) → All (λ p. is_le (key_cmp q.0 p.0) ≡ true) es
        → All (λ y. is_le (key_cmp q.0 y) ≡ true) (map (λ p. p.0) es)
    mapped [] all = λ k d lt. absurd (omega arith)
    mapped (e ∷ es) all = All-cons (λ y. is_le (key_cmp q.0 y) ≡ true) e.0 (map (λ p. p.0) es)
        (All-head (λ p. is_le (key_cmp q.0 p.0) ≡ true) e es all)
        (mapped es (All-tail (λ p. is_le (key_cmp q.0 p.0) ≡ true) e es all))

    strictly : (y : Key) → is_le (key_cmp q.0 y) ≡ true → eq_by_cmp key_cmp y q.0 ≡ false → key_cmp q.0 y ≡ Less
    strictly y le apart = elim (key_cmp q.0 y) as (λ (r : Ordering). key_cmp q.0 y ≡ r → is_le r ≡ true → r ≡ Less) [
      | Less ↦ λ is h. refl
      | Equal ↦ λ is h.
          let tie : eq_by_cmp key_cmp y q.0 ≡ true =
          ap is_eq (subst (λ (k : Key). key_cmp y k ≡ Equal) (sym (key_same q.0 y is)) (tied_itself key_total y)) in
          absurd (cc (tie, apart))
      | Greater ↦ λ is h. absurd (cc)
    ] refl le

-- and are just those of the entries
keys_are : (ps : List Entry) (key : Key)
    → list_any (eq_by_cmp key_cmp key) (keys_of ps) ≡ list_any (λ p. eq_by_cmp key_cmp key p.0) ps
keys_are ps key = any-firsts key_total key (map (λ p. p.0) ps) ∙ mapped ps
  where
    mapped : (es : List Entry) → list_any (eq_by_cmp key_cmp key) (map (λ p. p.0) es)
        ≡ list_any (λ p. eq_by_cmp key_cmp key p.0) es
    mapped [] = refl
    mapped (e ∷ es) = ap (λ (b : Bool). eq_by_cmp key_cmp key e.0 || b) (mapped es)

-- THE KEYS: those of the entries and no others, and they rise
pub keys_of_is : (ps : List Entry) → IsInOrder ps → AreKeys ps (keys_of ps)
keys_of_is ps order = record { members = keys_are ps; order = keys_rise ps order }

-- ---- what a call answers

module _ (wanted : Key → Bool) (ps taken : List Entry) (is : filter (λ p. wanted p.0) ps ≡ taken) where
  pub filtered : {E : Type 0} (r : Result (List (List ℕ)) E) → IfOk r (λ ids. ids ≡ firsts id_cmp (ids_of taken))
      → IfOk r (λ ids. ids ≡ answer wanted ps)
  filtered (Ok ids) h = h ∙ ap (λ (l : List Entry). firsts id_cmp (ids_of l)) (sym is)
  filtered (Err e) h = h

  pub found : IsInOrder ps → {E : Type 0} (r : Result (List (List ℕ)) E)
      → IfOk r (λ ids. ids ≡ firsts id_cmp (ids_of taken)) → IfOk r (IsAnswer wanted ps)
  found order (Ok ids) h = subst (IsAnswer wanted ps)
      (sym (h ∙ ap (λ (l : List Entry). firsts id_cmp (ids_of l)) (sym is))) (answer_is wanted ps order)
  found order (Err e) h = h
