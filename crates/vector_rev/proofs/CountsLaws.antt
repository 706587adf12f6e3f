-- Counters by uid: entries that count alike are the same, and what raised and joined entries count.
use Rattle.std.proofs.Common.{◌≡◌, ℕ, suc, ◌+◌, ◌<◌, ◌≤◌, max, Bool, true, false, cond, ◌&&◌, T, [], ◌∷◌, length, refl}
use Rattle.std.proofs.Common.{Option, Some, None, unwrap_or, is_some, sym, ◌∙◌, ap, subst, arith, leb-true, lt-ltb}
use Rattle.std.proofs.Common.{ltb-true, ltb, Ordering, Less, Equal, Greater}
use Rattle.std.specs.Prelude.{is_none, filter, nat_lt}
use Rattle.std.specs.List.{list_all}
use Rattle.std.specs.Ordering.{is_eq, is_lt, ordering_reverse}
use Rattle.std.specs.Cmp.Lexicographic.{nat_list_cmp_total}
use Rattle.std.specs.FinMap.Entries.{find, put, is_sorted, is_sorted-put, by_order, find-put, length-put, same_entries}
use Rattle.std.specs.FinMap.Entries.{below_all}
use Rattle.u1_base.specs.Ids.{id_cmp, is_id, same_id}
use Rattle.u1_base.specs.declared.ids.Form.TheVariants as form_of
use Rattle.u1_base.proofs.SameIds.{id_tied, same_id_is, same_id-itself, same_id-comm}
use Rattle.vector_rev.specs.Counts.{Uid, Entries, count_in, raised, join}
use Rattle.vector_rev.specs.Clock.{is_entry, is_clock}
use Rattle.vector_rev.proofs.Truths.{both, first, second, T_true, true_T}

-- each counter is at least 1
abbrev pub all_counted : Entries → Bool
all_counted es = list_all (λ e. nat_lt 0 e.1) es

-- the uids rise strictly, and no counter is 0
abbrev pub is_counts : Entries → Bool
is_counts es = is_sorted id_cmp es && all_counted es

-- a test that each entry passes, and the entry that is put
pub list_all-put : (p : Uid × ℕ → Bool) (k : Uid) (n : ℕ) (es : Entries) → T (p (k, n)) → T (list_all p es)
    → T (list_all p (put id_cmp k n es))
list_all-put p k n [] new h = both _ _ new tt
list_all-put p k n (e ∷ es) new h =
    elim (id_cmp k e.0) as (λ r. id_cmp k e.0 ≡ r
    → T (list_all p (by_order r ((k, n) ∷ e ∷ es) ((e.0, n) ∷ es) (e ∷ put id_cmp k n es)))) [
      | Less ↦ λ _. both _ _ new h
      | Equal ↦ λ same. both _ _ (subst (λ (u : Uid). T (p (u, n))) (id_tied k e.0 same) new) (second (p e) _ h)
      | Greater ↦ λ _. both _ _ (first _ _ h) (list_all-put p k n es new (second (p e) _ h))
    ] refl

pub is_counts-raised : (es : Entries) (u : Uid) → T (is_counts es) → T (is_counts (raised es u))
is_counts-raised es u h =
    both _ _ (is_sorted-put id_cmp nat_list_cmp_total u _ es (first _ _ h))
    (list_all-put _ u (suc (count_in es u)) es (true_T _ (lt-ltb 0 (suc (count_in es u)) (omega arith)))
    (second (is_sorted id_cmp es) _ h))

above_zero : (m n : ℕ) → T (nat_lt 0 m) → T (nat_lt 0 (max m n))
above_zero m n h = let low : 0 < m = ltb-true 0 m (T_true _ h) in true_T _ (lt-ltb 0 (max m n) (omega arith))

pub is_counts-join : (es ys : Entries) → T (all_counted es) → T (is_counts ys) → T (is_counts (join es ys))
is_counts-join [] ys counted h = h
is_counts-join (e ∷ es) ys counted h =
    let rest : T (is_counts (join es ys)) = is_counts-join es ys (second (nat_lt 0 e.1) _ counted) h in
    both _ _ (is_sorted-put id_cmp nat_list_cmp_total e.0 _ (join es ys) (first _ _ rest))
    (list_all-put _ e.0 (max e.1 (count_in ys e.0)) (join es ys) (above_zero e.1 (count_in ys e.0) (first _ _ counted))
    (second (is_sorted id_cmp (join es ys)) _ rest))

all_counted-is_entry : (es : Entries) → T (list_all is_entry es) → T (all_counted es)
all_counted-is_entry [] h = tt
all_counted-is_entry (e ∷ es) h =
    let one : T (is_entry e) = first _ _ h in
    let counted : 1 ≤ e.1 = leb-true _ _ (T_true _ (second (is_id form_of.Replica e.0) _ (first _ _ one))) in
    both _ _ (true_T _ (lt-ltb 0 e.1 (omega arith))) (all_counted-is_entry es (second (is_entry e) _ h))

pub is_counts-is_clock : (es : Entries) → T (is_clock es) → T (is_counts es)
is_counts-is_clock es h =
    both _ _ (first _ _ h) (all_counted-is_entry es (first _ _ (first _ _ (second (is_sorted id_cmp es) _ h))))

pub sorted_of : (es : Entries) → T (is_counts es) → T (is_sorted id_cmp es)
sorted_of es h = first _ _ h

-- ---- what entries count

pub less_is : (r : Ordering) → T (is_lt r) → r ≡ Less
less_is Less h = refl
less_is Equal h = absurd h
less_is Greater h = absurd h

-- a uid below another is another, in either order
pub below_not_same : (u v : Uid) → T (is_lt (id_cmp u v)) → same_id u v ≡ false
below_not_same u v h = ap is_eq (less_is _ h)

pub above_not_same : (u v : Uid) → T (is_lt (id_cmp v u)) → same_id u v ≡ false
above_not_same u v h = ap is_eq (nat_list_cmp_total.antisymm u v ∙ ap ordering_reverse (less_is _ h))

-- what stands below all entries of a list has none there
pub find_below : (u : Uid) (es : Entries) → T (below_all id_cmp u es) → find id_cmp u es ≡ None
find_below u [] h = refl
find_below u (e ∷ es) h =
    ap (λ b. cond b (Some e.1) (find id_cmp u es)) (below_not_same u e.0 (first _ _ h))
    ∙ find_below u es (second (is_lt (id_cmp u e.0)) _ h)

pub count_below : (u : Uid) (es : Entries) → T (below_all id_cmp u es) → count_in es u ≡ 0
count_below u es h = ap (λ (o : Option ℕ). unwrap_or o 0) (find_below u es h)

abbrev pub IsCounted : Option ℕ → Type 0
IsCounted None = Unit {0}
IsCounted (Some n) = 0 < n

pub find_counted : (es : Entries) (u : Uid) → T (all_counted es) → IsCounted (find id_cmp u es)
find_counted [] u h = tt
find_counted (e ∷ es) u h =
    elim (same_id u e.0) as (λ b. IsCounted (cond b (Some e.1) (find id_cmp u es))) [
      | true ↦ ltb-true 0 e.1 (T_true _ (first _ _ h))
      | false ↦ find_counted es u (second (ltb 0 e.1) _ h)
    ]

same_option : (a b : Option ℕ) → IsCounted a → IsCounted b → unwrap_or a 0 ≡ unwrap_or b 0 → a ≡ b
same_option None None p q e = refl
same_option None (Some n) p q e = absurd (omega arith)
same_option (Some m) None p q e = absurd (omega arith)
same_option (Some m) (Some n) p q e = ap Some e

-- entries in order that count alike are the same entries
pub same_entries-count : (es fs : Entries) → T (is_counts es) → T (is_counts fs)
    → ((u : Uid) → count_in es u ≡ count_in fs u) → es ≡ fs
same_entries-count es fs g h same =
    same_entries id_cmp nat_list_cmp_total id_tied es fs (first _ _ g) (first _ _ h)
    (λ u. same_option _ _ (find_counted es u (second (is_sorted id_cmp es) _ g))
    (find_counted fs u (second (is_sorted id_cmp fs) _ h)) (same u))

pub count_in-put : (u k : Uid) (n : ℕ) (es : Entries)
    → count_in (put id_cmp k n es) u ≡ cond (same_id u k) n (count_in es u)
count_in-put u k n es =
    ap (λ (o : Option ℕ). unwrap_or o 0) (find-put id_cmp nat_list_cmp_total u k n es)
    ∙ elim (same_id u k) as (λ b. unwrap_or (cond b (Some n) (find id_cmp u es)) 0 ≡ cond b n (count_in es u))
    [ true ↦ refl | false ↦ refl ]

-- raised entries count one more at that uid, and else as before
pub count-raised : (es : Entries) (k u : Uid)
    → count_in (raised es k) u ≡ cond (same_id u k) (suc (count_in es k)) (count_in es u)
count-raised es k u = count_in-put u k _ es

-- joined entries have of each uid the greater counter
pub count-join : (es ys : Entries) (u : Uid) → count_in (join es ys) u ≡ max (count_in es u) (count_in ys u)
count-join [] ys u = omega arith
count-join (e ∷ es) ys u =
    count_in-put u e.0 _ (join es ys)
    ∙ elim (same_id u e.0) as (λ b. same_id u e.0 ≡ b
    → cond b (max e.1 (count_in ys e.0)) (count_in (join es ys) u)
    ≡ max (unwrap_or (cond b (Some e.1) (find id_cmp u es)) 0) (count_in ys u)) [
      | true ↦ λ t. ap (λ v. max e.1 (count_in ys v)) (sym (same_id_is u e.0 t))
      | false ↦ λ _. count-join es ys u
    ] refl

pub join_comm : (es ys : Entries) → T (is_counts es) → T (is_counts ys) → join es ys ≡ join ys es
join_comm es ys g h =
    same_entries-count (join es ys) (join ys es)
    (is_counts-join es ys (second (is_sorted id_cmp es) _ g) h)
    (is_counts-join ys es (second (is_sorted id_cmp ys) _ h) g)
    (λ u. omega (arith, count-join es ys u, count-join ys es u))

-- ---- how many uids joined entries have

pub is_some-count : (o : Option ℕ) → IsCounted o → is_some o ≡ ltb 0 (unwrap_or o 0)
is_some-count None h = refl
is_some-count (Some n) h = grind arith

-- the entries whose uid has none among others
abbrev pub only_in : Entries → Entries → Entries
only_in es ys = filter (λ f. is_none (find id_cmp f.0 es)) ys

only_in_none : (ys : Entries) → only_in [] ys ≡ ys
only_in_none [] = refl
only_in_none (f ∷ ys) = ap (λ r. f ∷ r) (only_in_none ys)

found_first : (e : Uid × ℕ) (ys : Entries) → find id_cmp e.0 (e ∷ ys) ≡ Some e.1
found_first e ys = ap (λ b. cond b (Some e.1) (find id_cmp e.0 ys)) (same_id-itself e.0)

-- one more entry takes its own uid from those that are only in the other list
one_less : (e : Uid × ℕ) (es ys : Entries) → find id_cmp e.0 es ≡ None → T (is_sorted id_cmp ys)
    → length (only_in (e ∷ es) ys) + cond (is_some (find id_cmp e.0 ys)) 1 0 ≡ length (only_in es ys)
one_less e es [] none h = refl
one_less e es (f ∷ ys) none h =
    let rest : length (only_in (e ∷ es) ys) + cond (is_some (find id_cmp e.0 ys)) 1 0 ≡ length (only_in es ys) =
    one_less e es ys none (second (below_all id_cmp f.0 ys) _ h) in
    elim (same_id f.0 e.0) as (λ b. same_id f.0 e.0 ≡ b
    → length (cond (is_none (cond b (Some e.1) (find id_cmp f.0 es))) (f ∷ only_in (e ∷ es) ys) (only_in (e ∷ es) ys))
    + cond (is_some (cond (same_id e.0 f.0) (Some f.1) (find id_cmp e.0 ys))) 1 0
    ≡ length (cond (is_none (find id_cmp f.0 es)) (f ∷ only_in es ys) (only_in es ys))) [
      | true ↦ λ t.
          let same : f.0 ≡ e.0 = same_id_is f.0 e.0 t in
          let absent : find id_cmp f.0 es ≡ None = ap (λ u. find id_cmp u es) same ∙ none in
          let gone : find id_cmp e.0 ys ≡ None = ap (λ u. find id_cmp u ys) (sym same)
          ∙ find_below f.0 ys (first _ _ h) in
          let left : length (only_in (e ∷ es) ys) ≡ length (only_in es ys) =
          no_more _ _ (sym (ap (λ (o : Option ℕ). length (only_in (e ∷ es) ys) + cond (is_some o) 1 0) gone) ∙ rest) in
          ap (λ b. length (only_in (e ∷ es) ys) + cond (is_some (cond b (Some f.1) (find id_cmp e.0 ys))) 1 0)
          (same_id-comm e.0 f.0 ∙ t)
          ∙ one_more _ _ left
          ∙ sym (ap (λ (o : Option ℕ). length (cond (is_none o) (f ∷ only_in es ys) (only_in es ys))) absent)
      | false ↦ λ t.
          ap (λ b. length (cond (is_none (find id_cmp f.0 es)) (f ∷ only_in (e ∷ es) ys) (only_in (e ∷ es) ys))
          + cond (is_some (cond b (Some f.1) (find id_cmp e.0 ys))) 1 0) (same_id-comm e.0 f.0 ∙ t)
          ∙ elim (is_none (find id_cmp f.0 es)) as
          (λ b. length (cond b (f ∷ only_in (e ∷ es) ys) (only_in (e ∷ es) ys))
          + cond (is_some (find id_cmp e.0 ys)) 1 0 ≡ length (cond b (f ∷ only_in es ys) (only_in es ys))) [
            | true ↦ later _ _ _ rest
            | false ↦ rest
          ]
    ] refl
  where
    no_more : (m n : ℕ) → m + 0 ≡ n → m ≡ n
    no_more m n e = omega arith

    one_more : (m n : ℕ) → m ≡ n → m + 1 ≡ suc n
    one_more m n e = omega arith

    later : (a b n : ℕ) → a + b ≡ n → suc a + b ≡ suc n
    later a b n e = omega arith

-- the join has an entry for each uid that occurs
pub length-join : (es ys : Entries) → T (is_counts es) → T (is_counts ys)
    → length (join es ys) ≡ length es + length (only_in es ys)
length-join [] ys g h = ap length (sym (only_in_none ys)) ∙ zero_more _
  where
    zero_more : (n : ℕ) → n ≡ 0 + n
    zero_more n = omega arith
length-join (e ∷ es) ys g h =
    let counted : T (all_counted es) = second (ltb 0 e.1) _ (second (is_sorted id_cmp (e ∷ es)) _ g) in
    let inner : T (is_counts es) = both _ _ (second (below_all id_cmp e.0 es) _ (first _ _ g)) counted in
    let whole : T (is_counts (join es ys)) = is_counts-join es ys counted h in
    let absent : find id_cmp e.0 es ≡ None = find_below e.0 es (first _ _ (first _ _ g)) in
    let found : is_some (find id_cmp e.0 (join es ys)) ≡ is_some (find id_cmp e.0 ys) =
    is_some-count _ (find_counted (join es ys) e.0 (second (is_sorted id_cmp (join es ys)) _ whole))
    ∙ ap (λ n. ltb 0 n) (count-join es ys e.0 ∙ ap (λ (o : Option ℕ). max (unwrap_or o 0) (count_in ys e.0)) absent
    ∙ zero_max _)
    ∙ sym (is_some-count _ (find_counted ys e.0 (second (is_sorted id_cmp ys) _ h))) in
    length-put id_cmp nat_list_cmp_total e.0 _ (join es ys) (first _ _ whole)
    ∙ ap (λ b. cond b (length (join es ys)) (length (join es ys) + 1)) found
    ∙ counted_one (is_some (find id_cmp e.0 ys)) _ _ _ _ (length-join es ys inner h)
    (one_less e es ys absent (first _ _ h))
  where
    zero_max : (n : ℕ) → max 0 n ≡ n
    zero_max n = omega arith

    counted_one : (b : Bool) (n a m k : ℕ) → n ≡ a + m → k + cond b 1 0 ≡ m → cond b n (n + 1) ≡ suc a + k
    counted_one true n a m k e f = omega arith
    counted_one false n a m k e f = omega arith

-- a join has at least the entries of each side
pub length-join-left : (es ys : Entries) → T (is_counts es) → T (is_counts ys) → length es ≤ length (join es ys)
length-join-left es ys g h = omega (arith, length-join es ys g h)

pub length-join-right : (es ys : Entries) → T (is_counts es) → T (is_counts ys) → length ys ≤ length (join es ys)
length-join-right es ys g h = subst (λ (fs : Entries). length ys ≤ length fs) (join_comm ys es h g)
    (length-join-left ys es h g)
