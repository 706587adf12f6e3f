-- A walk through all entries that keeps a key where it is not the last one that was kept.
use Rattle.std.proofs.Common.{◌≡◌, ℕ, ◌+◌, ◌-◌, ◌<◌, ◌≤◌, Bool, true, false, cond, ◌||◌, List, [], ◌∷◌, ◌++◌, length}
use Rattle.std.proofs.Common.{map, take, get_or, Option, Some, None, option_map, zero, suc, refl, sym, subst, ◌∙◌, ap}
use Rattle.std.proofs.Common.{ap₂, arith, add-one, inl, inr, Ordering, Less, Equal, Greater}
use Rattle.std.proofs.lemmas.Bool.{cases_Bool, cases_lt}
use Rattle.std.proofs.lemmas.List.{length-append, map-append, take_more}
use Rattle.std.specs.List.{list_any, slice_get}
use Rattle.std.specs.Ordering.{eq_by_cmp, is_eq, ordering_reverse, ordering_then}
use Rattle.index_tables.specs.Order.{Entry, IsInOrder, Key, entry_cmp, key_cmp}
use Rattle.index_tables.proofs.Sought.{key_below}
use Rattle.index_tables.proofs.TotalOrders.{key_same, key_total}
use Rattle.u1_base.specs.Ids.{id_cmp}
use Rattle.u1_base.proofs.SameIds.{equal_is}
use Rattle.query_range.specs.Answers.{firsts, keys_of}
use Rattle.query_range.specs.inner.Wanted.{is_key}
use Rattle.query_range.proofs.Firsts.{firsts-push}

-- the key of the entry before a place
abbrev pub key_before : List Entry → ℕ → Option Key
key_before ps zero = None
key_before ps (suc n) = option_map (λ p. p.0) (slice_get ps n)

-- the keys of the entries before a place are kept, each once; the last of them is that of the last entry. Each entry
-- was looked at once
pub record Listed (ps : List Entry) (place : ℕ) (keys : List Key) (begun now : ℕ) : Type 0 where
  pub once : keys ≡ keys_of (take place ps)
  pub last : slice_get keys (length keys - 1) ≡ key_before ps place
  pub looks : now ≤ begun + place

-- ---- reading a list at a place

pub reads : {X : Type 0} (xs : List X) (n : ℕ) (x : X) → Some x ≡ slice_get xs n → (d : X) → get_or xs n d ≡ x
reads [] n x at d = absurd (cc)
reads (y ∷ xs) zero x at d = (cc)
reads (y ∷ xs) (suc n) x at d = reads xs n x at d

pub in_list : {X : Type 0} (xs : List X) (n : ℕ) (x : X) → Some x ≡ slice_get xs n → n < length xs
in_list [] n x at = absurd (cc)
in_list (y ∷ xs) zero x at = omega arith
in_list (y ∷ xs) (suc n) x at = omega (arith, in_list xs n x at)

pub past_list : {X : Type 0} (xs : List X) (n : ℕ) → None ≡ slice_get xs n → length xs ≤ n
past_list [] n at = omega arith
past_list (y ∷ xs) zero at = absurd (cc)
past_list (y ∷ xs) (suc n) at = omega (arith, past_list xs n at)

there : {X : Type 0} (xs : List X) (n : ℕ) → n < length xs → (x : X) × (Some x ≡ slice_get xs n)
there [] n lt = absurd (omega arith)
there (y ∷ xs) zero lt = (y, refl)
there (y ∷ xs) (suc n) lt = there xs n (omega arith)

last_of : {X : Type 0} (xs : List X) (x : X) → slice_get (xs ++ x ∷ []) (length (xs ++ x ∷ []) - 1) ≡ Some x
last_of xs x = ap (slice_get (xs ++ x ∷ [])) (one_less xs) ∙ at_end xs
  where
    one_less : (l : List _) → length (l ++ x ∷ []) - 1 ≡ length l
    one_less l = omega (arith, length-append l (x ∷ []))

    at_end : (l : List _) → slice_get (l ++ x ∷ []) (length l) ≡ Some x
    at_end [] = refl
    at_end (y ∷ l) = at_end l

-- ---- whether a key stands among those before a place

any_at : (f : Key → Bool) (ps : List Entry) (n : ℕ) (q : Entry) → Some q ≡ slice_get ps n → f q.0 ≡ true
    → list_any f (map (λ p. p.0) (take (suc n) ps)) ≡ true
any_at f [] n q at is = absurd (cc)
any_at f (p ∷ ps) zero q at is = let one : q ≡ p = (cc)
    in ap (λ (b : Bool). b || false) (ap (λ (e : Entry). f e.0) (sym one) ∙ is)
any_at f (p ∷ ps) (suc n) q at is = ap (λ (b : Bool). f p.0 || b) (any_at f ps n q at is) ∙ or_true (f p.0)
  where
    or_true : (b : Bool) → (b || true) ≡ true
    or_true true = refl
    or_true false = refl

none_at : (f : Key → Bool) (ps : List Entry) (n : ℕ) → n ≤ length ps
    → ((k : ℕ) (d : Entry) → k < n → f (get_or ps k d).0 ≡ false) → list_any f (map (λ p. p.0) (take n ps)) ≡ false
none_at f [] zero le none = refl
none_at f (p ∷ ps) zero le none = refl
none_at f [] (suc n) le none = absurd (omega arith)
none_at f (p ∷ ps) (suc n) le none =
    ap (λ (b : Bool). b || list_any f (map (λ q. q.0) (take n ps))) (none 0 p (omega arith))
    ∙ none_at f ps n (omega arith) (λ k d lt. none (suc k) d (omega arith))

-- entries in order whose keys do not tie
below : (q p : Entry) → entry_cmp q p ≡ Less → is_eq (key_cmp q.0 p.0) ≡ false → key_cmp q.0 p.0 ≡ Less
below q p less apart = by (key_cmp q.0 p.0) less apart
  where
    by : (r : Ordering) → ordering_then r (id_cmp q.1 p.1) ≡ Less → is_eq r ≡ false → r ≡ Less
    by Less h e = refl
    by Equal h e = absurd (cc)
    by Greater h e = absurd (cc)

apart_back : (key other : Key) → key_cmp key other ≡ Less → eq_by_cmp key_cmp other key ≡ false
apart_back key other less = ap is_eq (key_total.antisymm other key ∙ ap ordering_reverse less)

tie_back : (key other : Key) → is_eq (key_cmp key other) ≡ is_eq (key_cmp other key)
tie_back key other = ap is_eq (key_total.antisymm key other) ∙ by (key_cmp other key)
  where
    by : (r : Ordering) → is_eq (ordering_reverse r) ≡ is_eq r
    by Less = refl
    by Equal = refl
    by Greater = refl

-- in order, a key stands before a place just where it is that of the entry before the place
known : (ps : List Entry) (place : ℕ) (p : Entry) → IsInOrder ps → Some p ≡ slice_get ps place
    → list_any (eq_by_cmp key_cmp p.0) (map (λ e. e.0) (take place ps)) ≡ is_key (key_before ps place) p.0
known ps zero p order at = nothing ps
  where
    nothing : (es : List Entry) → list_any (eq_by_cmp key_cmp p.0) (map (λ e. e.0) (take 0 es)) ≡ false
    nothing [] = refl
    nothing (e ∷ es) = refl
known ps (suc n) p order at =
    let before = there ps n (omega (arith, in_list ps (suc n) p at)) in
    let q = before.0 in
    let q_at : Some q ≡ slice_get ps n = before.1 in
    let q_reads : (d : Entry) → get_or ps n d ≡ q = reads ps n q q_at in
    let less : entry_cmp q p ≡ Less = subst (λ (e : Entry). entry_cmp e p ≡ Less) (q_reads p)
    (subst (λ (e : Entry). entry_cmp (get_or ps n p) e ≡ Less) (reads ps (suc n) p at p)
    (order n (suc n) p (omega arith) (in_list ps (suc n) p at))) in
    elim (cases_Bool (is_eq (key_cmp q.0 p.0))) [
      | inl ties ↦ any_at (eq_by_cmp key_cmp p.0) ps n q q_at (tie_back p.0 q.0 ∙ ties) ∙ sym ties
      | inr differs ↦
          none_at (eq_by_cmp key_cmp p.0) ps (suc n) (omega (arith, in_list ps (suc n) p at))
          (λ k d lt. apart_back (get_or ps k d).0 p.0 (elim (cases_lt k n) [
            | inl early ↦ key_below (get_or ps k d) q p.0
                (subst (λ (e : Entry). entry_cmp (get_or ps k d) e ≡ Less) (q_reads d)
                (order k n d early (omega (arith, in_list ps (suc n) p at)))) (below q p less differs)
            | inr late ↦
                let here : n ≡ k = omega arith in
                subst (λ (m : ℕ). key_cmp (get_or ps m d).0 p.0 ≡ Less) here
                (subst (λ (e : Entry). key_cmp e.0 p.0 ≡ Less) (sym (q_reads d)) (below q p less differs))
          ]))
          ∙ sym differs
    ]
    ∙ ap (λ (o : Option Entry). is_key (option_map (λ e. e.0) o) p.0) q_at

-- ---- one entry more

module _ (ps : List Entry) (order : IsInOrder ps) (place : ℕ) (keys : List Key) (begun now : ℕ)
    (listed : Listed ps place keys begun now) (p : Entry) (at : Some p ≡ slice_get ps place) (last : Bool)
    (is : last ≡ is_key (slice_get keys (length keys - 1)) p.0) where
  next_keys : keys_of (take (place + 1) ps) ≡ cond last keys (keys ++ p.0 ∷ [])
  next_keys =
      ap keys_of (take_more ps place p (in_list ps place p at)
      ∙ ap (λ (e : Entry). take place ps ++ e ∷ []) (reads ps place p at p))
      ∙ ap (firsts key_cmp) (map-append (λ (e : Entry). e.0) (take place ps) (p ∷ []))
      ∙ firsts-push key_cmp (map (λ e. e.0) (take place ps)) p.0
      ∙ ap₂ (λ (b : Bool) (l : List Key). cond b l (l ++ p.0 ∷ []))
      (known ps place p order at ∙ ap (λ (o : Option Key). is_key o p.0) (sym listed.last) ∙ sym is) (sym listed.once)

  here : key_before ps (place + 1) ≡ Some p.0
  here = ap (key_before ps) (add-one place) ∙ ap (option_map (λ (e : Entry). e.0)) (sym at)

  pub listed_new : last ≡ false → (key : Key) → key ≡ p.0 → (after : List Key) → after ≡ keys ++ key ∷ [] → (later : ℕ)
      → later ≤ now + 1 → Listed ps (place + 1) after begun later
  listed_new fresh key copied after pushed later step =
      let after_is : after ≡ keys ++ p.0 ∷ [] = pushed ∙ ap (λ (k : Key). keys ++ k ∷ []) copied in
      record {
        once = after_is ∙ ap (λ (b : Bool). cond b keys (keys ++ p.0 ∷ [])) (sym fresh) ∙ sym next_keys;
        last = ap (λ (l : List Key). slice_get l (length l - 1)) after_is ∙ last_of keys p.0 ∙ sym here;
        looks = omega (arith, listed.looks, step);
      }

  pub listed_known : last ≡ true → (after : List Key) → after ≡ keys → (later : ℕ) → later ≤ now + 1
      → Listed ps (place + 1) after begun later
  listed_known ties after kept later step = record {
    once = kept ∙ ap (λ (b : Bool). cond b keys (keys ++ p.0 ∷ [])) (sym ties) ∙ sym next_keys;
    last = ap (λ (l : List Key). slice_get l (length l - 1)) kept
        ∙ by (slice_get keys (length keys - 1)) (sym is ∙ ties) ∙ sym here;
    looks = omega (arith, listed.looks, step);
  }
    where
      by : (o : Option Key) → is_key o p.0 ≡ true → o ≡ Some p.0
      by None h = absurd (cc)
      by (Some k) h = ap Some (key_same k p.0 (equal_is (key_cmp k p.0) h))

-- all entries were looked at
pub all_listed : (ps : List Entry) (place : ℕ) (keys : List Key) (begun now : ℕ) → length ps ≤ place
    → Listed ps place keys begun now → keys ≡ keys_of ps
all_listed ps place keys begun now whole listed = listed.once ∙ ap keys_of (all ps place whole)
  where
    all : (es : List Entry) (n : ℕ) → length es ≤ n → take n es ≡ es
    all [] zero le = refl
    all [] (suc n) le = refl
    all (e ∷ es) zero le = absurd (omega arith)
    all (e ∷ es) (suc n) le = ap (λ (l : List Entry). e ∷ l) (all es n (omega arith))
