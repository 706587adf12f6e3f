-- How clocks compare: covering is a preorder, clocks that count alike are one, the join is the least clock that covers
-- both.
use Rattle.std.proofs.Common.{◌≡◌, ◌≢◌, ℕ, suc, ◌+◌, ◌<◌, ◌≤◌, ◌⊎◌, inl, inr, max, Bool, true, false, cond, not, ◌&&◌}
use Rattle.std.proofs.Common.{T, [], ◌∷◌, length, refl, Some, None, unwrap_or, sym, ◌∙◌, ap, ap₂, subst, arith, leb}
use Rattle.std.proofs.Common.{leb-true, ltb, lt-ltb, is_some, le-leb, le_trans, true≢false}
use Rattle.std.specs.List.{list_all}
use Rattle.std.specs.Prelude.{nat_le, ◌^◌, nat_eq}
use Rattle.std.specs.Cmp.Lexicographic.{nat_list_cmp_total, pointwise, pointwise_decides, bytes_decides}
use Rattle.std.specs.FinMap.Entries.{find, is_sorted, below_all, length-put}
use Rattle.vector_rev.specs.Counts.{Uid, Entries, count_in, raised, join}
use Rattle.u1_base.specs.Ids.{id_cmp, same_id, is_id}
use Rattle.u1_base.specs.declared.ids.Form.TheVariants as form_of
use Rattle.u1_base.specs.declared.limits.TheConstants.{GREATEST_COUNT}
use Rattle.vector_rev.proofs.CountsLaws.{is_counts, is_counts-is_clock, is_counts-raised, is_counts-join, list_all-put}
use Rattle.vector_rev.proofs.CountsLaws.{count_below, same_entries-count, count-join, count-raised, length-join}
use Rattle.vector_rev.proofs.CountsLaws.{find_counted, is_some-count}
use Rattle.vector_rev.proofs.Truths.{both, first, second, T_true, true_T}
use Rattle.vector_rev.specs.Clock.{Clock, count_of, is_entry, is_clock, Covers, covers, Dominates, dominates}
use Rattle.vector_rev.specs.Stored.{same_record}
use Rattle.vector_rev.specs.Compare.{Compares, order_of, same_entry, same}
use Rattle.vector_rev.specs.declared.compare.Order.{Order}
use Rattle.vector_rev.specs.declared.compare.Order.TheVariants as answer
use Rattle.std.specs.Bool.{Decides}
use Rattle.std.proofs.lemmas.Bool.{and_parts, and_from, eqb-true, eq-eqb}
use Rattle.vector_rev.specs.Made.{IsJoin, IsNext, IsFirst, IsFull, occurring}
use Rattle.vector_rev.specs.inner.Standing.{HasRoom}
use Rattle.u1_base.proofs.SameIds.{same_id_is, same_id-itself}

abbrev all_at_most : Entries → (Uid → ℕ) → Bool
all_at_most es n = list_all (λ e. leb e.1 (n e.0)) es

counts_at_most : (es : Entries) (n : Uid → ℕ) → all_at_most es n ≡ true → (u : Uid) → count_in es u ≤ n u
counts_at_most [] n h u = omega arith
counts_at_most (e ∷ es) n h u =
    elim (same_id u e.0) as (λ b. same_id u e.0 ≡ b → unwrap_or (cond b (Some e.1) (find id_cmp u es)) 0 ≤ n u) [
      | true ↦ λ t. subst (λ v. e.1 ≤ n v) (sym (same_id_is u e.0 t)) (leb-true _ _ (T_true _ (first _ _ (true_T _ h))))
      | false ↦ λ _. counts_at_most es n (T_true _ (second (leb e.1 (n e.0)) _ (true_T _ h))) u
    ] refl

at_most_from : (es : Entries) (n : Uid → ℕ) → T (is_sorted id_cmp es) → ((u : Uid) → count_in es u ≤ n u)
    → all_at_most es n ≡ true
at_most_from [] n s h = refl
at_most_from (e ∷ es) n s h =
    ap₂ (λ a b. a && b)
    (le-leb e.1 (n e.0) (subst (λ (b : Bool). unwrap_or (cond b (Some e.1) (find id_cmp e.0 es)) 0 ≤ n e.0)
    (same_id-itself e.0) (h e.0)))
    (at_most_from es n (second (below_all id_cmp e.0 es) _ s) rest)
  where
    rest : (u : Uid) → count_in es u ≤ n u
    rest u =
        elim (same_id u e.0) as (λ b. same_id u e.0 ≡ b → unwrap_or (cond b (Some e.1) (find id_cmp u es)) 0 ≤ n u
        → count_in es u ≤ n u) [
          | true ↦ λ t _. subst (λ (k : ℕ). k ≤ n u)
              (sym (ap (count_in es) (same_id_is u e.0 t) ∙ count_below e.0 es (first _ _ s))) (omega arith)
          | false ↦ λ _ le. le
        ] refl (h u)

-- the entries of a clock are in order and count
pub counted : (x : Clock) → T (is_counts x.entries)
counted x = is_counts-is_clock x.entries x.well

-- the test of covering tells what covering says, both ways
pub covers_at : (x y : Clock) → covers x y ≡ true → Covers x y
covers_at x y h = counts_at_most y.entries (count_of x) h

pub covers_from : (x y : Clock) → Covers x y → covers x y ≡ true
covers_from x y h = at_most_from y.entries (count_of x) (first _ _ y.well) h

-- clocks that count alike are one clock
pub same_clock : (x y : Clock) → ((u : Uid) → count_of x u ≡ count_of y u) → x ≡ y
same_clock x y same = same_record x y (same_entries-count x.entries y.entries (counted x) (counted y) same)

pub Covers-itself : (x : Clock) → Covers x x
Covers-itself x u = omega arith

pub Covers-trans : (x y z : Clock) → Covers x y → Covers y z → Covers x z
Covers-trans x y z p q u = le_trans (q u) (p u)

-- clocks that cover each other are one
pub Covers-both : (x y : Clock) → Covers x y → Covers y x → x ≡ y
Covers-both x y p q = same_clock x y (λ u. omega (arith, p u, q u))

pub covers-itself : (x : Clock) → covers x x ≡ true
covers-itself x = covers_from x x (Covers-itself x)

pub covers-trans : (x y z : Clock) → covers x y ≡ true → covers y z ≡ true → covers x z ≡ true
covers-trans x y z p q = covers_from x z (Covers-trans x y z (covers_at x y p) (covers_at y z q))

pub covers-both : (x y : Clock) → covers x y ≡ true → covers y x ≡ true → x ≡ y
covers-both x y p q = Covers-both x y (covers_at x y p) (covers_at y x q)

not_covered : (x y : Clock) → covers x y ≡ true → x ≢ y → covers y x ≡ false
not_covered x y p other =
    elim (covers y x) as (λ b. covers y x ≡ b → b ≡ false) [
      | true ↦ λ q. absurd (other (covers-both x y p q))
      | false ↦ λ _. refl
    ] refl

-- the test of being newer tells what being newer says, both ways
pub dominates_at : (x y : Clock) → dominates x y ≡ true → Dominates x y
dominates_at x y h = (
  covers_at x y (T_true _ (first _ _ (true_T _ h))),
  λ e. apart (covers y x) (second (covers x y) _ (true_T _ h)) (subst (λ z. covers z x ≡ true) e (covers-itself x)),
)
  where
    apart : (b : Bool) → T (not b) → b ≡ true → ⊥
    apart true t e = t
    apart false t e = true≢false (sym e)

pub dominates_from : (x y : Clock) → Dominates x y → dominates x y ≡ true
dominates_from x y h =
    let c : covers x y ≡ true = covers_from x y h.0 in
    ap₂ (λ a b. a && not b) c (not_covered x y c h.1)

-- ---- the join

pub IsJoin-left : (x y z : Clock) → IsJoin x y z → Covers z x
IsJoin-left x y z j u = omega (arith, j u)

pub IsJoin-right : (x y z : Clock) → IsJoin x y z → Covers z y
IsJoin-right x y z j u = omega (arith, j u)

pub IsJoin-least : (x y z w : Clock) → IsJoin x y z → Covers w x → Covers w y → Covers w z
IsJoin-least x y z w j p q u = omega (arith, j u, p u, q u)

-- a clock that counts as the join has the joined entries
pub entries-IsJoin : (x y z : Clock) → IsJoin x y z → z.entries ≡ join x.entries y.entries
entries-IsJoin x y z j =
    same_entries-count z.entries (join x.entries y.entries) (counted z)
    (is_counts-join x.entries y.entries (second (is_sorted id_cmp x.entries) _ (counted x)) (counted y))
    (λ u. j u ∙ sym (count-join x.entries y.entries u))

-- so many uids occur as the joined entries are
pub length-occurring : (x y : Clock) → length (join x.entries y.entries) ≡ occurring x y
length-occurring x y = length-join x.entries y.entries (counted x) (counted y)

-- ---- the raised clock

pub IsNext-newer : (x z : Clock) (own : Uid) → IsNext x own z → Dominates z x
IsNext-newer x z own n = (above, λ e. absurd (raised_is_more (ap (λ (y : Clock). count_of y own) e)))
  where
    above : Covers z x
    above u =
        elim (same_id u own) as (λ b. same_id u own ≡ b → count_of x u ≤ count_of z u) [
          | true ↦ λ t. subst (λ v. count_of x v ≤ count_of z v) (sym (same_id_is u own t)) (omega (arith, n.raised))
          | false ↦ λ t. omega (
            arith,
            n.others u
                (λ e. true≢false (sym (same_id-itself own) ∙ ap (λ v. same_id v own) (sym e) ∙ t)),
          )
        ] refl

    raised_is_more : count_of z own ≡ count_of x own → ⊥
    raised_is_more e = omega (arith, n.raised)

pub not_same : (u v : Uid) → u ≢ v → same_id u v ≡ false
not_same u v other = elim (same_id u v) as (λ b. same_id u v ≡ b
    → b ≡ false) [ true ↦ λ t. absurd (other (same_id_is u v t)) | false ↦ λ _. refl ] refl

-- one entry with the counter 1
pub IsFirst-entries : (own : Uid) (z : Clock) → z.entries ≡ (own, 1) ∷ [] → IsFirst own z
IsFirst-entries own z e = record {
  one = ap (λ (es : Entries). count_in es own) e ∙ ap (λ b. unwrap_or (cond b (Some 1) None) 0) (same_id-itself own);
  others = λ u other. ap (λ (es : Entries). count_in es u) e
      ∙ ap (λ b. unwrap_or (cond b (Some 1) None) 0) (not_same u own other);
}

-- what the two tests of covering say together
pub dominates_by : (x y : Clock) → covers x y ≡ true → covers y x ≡ false → Dominates x y
dominates_by x y p q = (covers_at x y p, λ e. true≢false (sym (subst (λ z. covers z x ≡ true) e (covers-itself x)) ∙ q))

pub not_covers : (x y : Clock) → covers x y ≡ false → ¬ (Covers x y)
not_covers x y q h = true≢false (sym (covers_from x y h) ∙ q)

-- ---- that joined and raised entries are those of a clock

below_limit : (n : ℕ) → n ≤ GREATEST_COUNT → n < 2 ^ 63
below_limit n h = omega (arith, h)

-- a counter of a clock is below 2^63
counter_small : (es : Entries) (u : Uid) → T (list_all is_entry es) → count_in es u < 2 ^ 63
counter_small [] u h = omega arith
counter_small (e ∷ es) u h =
    elim (same_id u e.0) as (λ b. unwrap_or (cond b (Some e.1) (find id_cmp u es)) 0 < 2 ^ 63) [
      | true ↦ below_limit e.1
          (leb-true e.1 GREATEST_COUNT (T_true _ (second (is_id form_of.Replica e.0 && nat_le 1 e.1) _ (first _ _ h))))
      | false ↦ counter_small es u (second (is_entry e) _ h)
    ]

pub entries_of : (x : Clock) → T (list_all is_entry x.entries)
entries_of x = first _ _ (first _ _ (second (is_sorted id_cmp x.entries) _ x.well))

pub count_of-small : (x : Clock) (u : Uid) → count_of x u < 2 ^ 63
count_of-small x u = counter_small x.entries u (entries_of x)

pub some_entry : (x : Clock) → 1 ≤ length x.entries
some_entry x = leb-true 1 (length x.entries)
    (T_true _ (second (list_all is_entry x.entries) _ (first _ _ (second (is_sorted id_cmp x.entries) _ x.well))))

pub few_entries : (x : Clock) → length x.entries ≤ 64
few_entries x = leb-true (length x.entries) 64
    (T_true _ (second (list_all is_entry x.entries && nat_le 1 (length x.entries)) _
    (second (is_sorted id_cmp x.entries) _ x.well)))

-- an entry stays one where its counter becomes a greater one below 2^63
entry_with : (u : Uid) (m n : ℕ) → T (is_entry (u, m)) → m ≤ n → n < 2 ^ 63 → T (is_entry (u, n))
entry_with u m n h le small =
    let low : 1 ≤ m = leb-true 1 m (T_true _ (second (is_id form_of.Replica u) _ (first _ _ h))) in
    both _ _ (both _ _ (first _ _ (first _ _ h)) (true_T _ (le-leb 1 n (omega arith))))
    (true_T _ (le-leb n GREATEST_COUNT (omega (arith, small))))

all_entries-joined : (es ys : Entries) → T (list_all is_entry es) → T (list_all is_entry ys)
    → T (list_all is_entry (join es ys))
all_entries-joined [] ys g h = h
all_entries-joined (e ∷ es) ys g h =
    let one : T (is_entry e) = first _ _ g in
    let small : e.1 < 2 ^ 63 = below_limit e.1
    (leb-true e.1 GREATEST_COUNT (T_true _ (second (is_id form_of.Replica e.0 && nat_le 1 e.1) _ one))) in
    let other : count_in ys e.0 < 2 ^ 63 = counter_small ys e.0 h in
    list_all-put is_entry e.0 (max e.1 (count_in ys e.0)) (join es ys)
    (entry_with e.0 e.1 (max e.1 (count_in ys e.0)) one (omega arith) (omega arith))
    (all_entries-joined es ys (second (is_entry e) _ g) h)

clock_by : (es : Entries) → T (is_counts es) → T (list_all is_entry es) → 1 ≤ length es → length es ≤ 64
    → T (is_clock es)
clock_by es c h some few =
    both _ _ (first _ _ c) (both _ _ (both _ _ h (true_T _ (le-leb 1 (length es) some)))
    (true_T _ (le-leb (length es) 64 few)))

pub is_clock-joined : (x y : Clock) (es : Entries) → es ≡ join x.entries y.entries → length es ≤ 64 → T (is_clock es)
is_clock-joined x y es e few =
    subst (λ fs. T (is_clock fs)) (sym e)
    (clock_by (join x.entries y.entries)
    (is_counts-join x.entries y.entries (second (is_sorted id_cmp x.entries) _ (counted x)) (counted y))
    (all_entries-joined x.entries y.entries (entries_of x) (entries_of y))
    (omega (arith, some_entry x, length-join x.entries y.entries (counted x) (counted y)))
    (subst (λ (fs : Entries). length fs ≤ 64) e few))

pub count_in-IsJoin : (x y : Clock) (es : Entries) → es ≡ join x.entries y.entries → (u : Uid)
    → count_in es u ≡ max (count_of x u) (count_of y u)
count_in-IsJoin x y es e u = ap (λ (fs : Entries). count_in fs u) e ∙ count-join x.entries y.entries u

pub occurring-joined : (x y : Clock) (es : Entries) → es ≡ join x.entries y.entries → occurring x y ≡ length es
occurring-joined x y es e = sym (ap length e ∙ length-occurring x y)

pub is_clock-raised : (x : Clock) (own : Uid) (n : ℕ) (es : Entries) → HasRoom x own n → T (is_entry (own, n))
    → es ≡ raised x.entries own → T (is_clock es)
is_clock-raised x own n es room entry e =
    subst (λ fs. T (is_clock fs)) (sym e)
    (clock_by (raised x.entries own) (is_counts-raised x.entries own (counted x))
    (list_all-put is_entry own (suc (count_of x own)) x.entries
    (subst (λ (k : ℕ). T (is_entry (own, k))) (one_more n (count_of x own) room.raised) entry) (entries_of x))
    (subst (λ (n : ℕ). 1 ≤ n) (sym length_raised) (least _ (length x.entries) (some_entry x)))
    (subst (λ (n : ℕ). n ≤ 64) (sym length_raised) (few room.room)))
  where
    one_more : (k m : ℕ) → k ≡ m + 1 → k ≡ suc m
    one_more k m h = omega arith

    least : (b : Bool) (m : ℕ) → 1 ≤ m → 1 ≤ cond b m (m + 1)
    least true m h = h
    least false m h = omega arith

    most : (b : Bool) (m : ℕ) → m < 64 → cond b m (m + 1) ≤ 64
    most true m h = omega arith
    most false m h = omega arith

    length_raised : length (raised x.entries own)
        ≡ cond (is_some (find id_cmp own x.entries)) (length x.entries) (length x.entries + 1)
    length_raised = length-put id_cmp nat_list_cmp_total own (suc (count_of x own)) x.entries (first _ _ x.well)

    there : 1 ≤ count_of x own → is_some (find id_cmp own x.entries) ≡ true
    there h = is_some-count _ (find_counted x.entries own (second (is_sorted id_cmp x.entries) _ (counted x)))
        ∙ lt-ltb 0 (count_of x own) (omega arith)

    few : (1 ≤ count_of x own) ⊎ (length x.entries < 64)
        → cond (is_some (find id_cmp own x.entries)) (length x.entries) (length x.entries + 1) ≤ 64
    few (inl h) = subst (λ (b : Bool). cond b (length x.entries) (length x.entries + 1) ≤ 64) (sym (there h))
        (few_entries x)
    few (inr h) = most _ (length x.entries) h

-- raised entries count as the raised clock
pub IsNext-entries : (x z : Clock) (own : Uid) → z.entries ≡ raised x.entries own → IsNext x own z
IsNext-entries x z own e = record {
  raised = at own ∙ ap (λ b. cond b (suc (count_of x own)) (count_of x own)) (same_id-itself own)
      ∙ one_more (count_of x own);
  others = λ u other. at u ∙ ap (λ b. cond b (suc (count_of x own)) (count_of x u)) (not_same u own other);
}
  where
    one_more : (n : ℕ) → suc n ≡ n + 1
    one_more n = omega arith

    at : (u : Uid) → count_of z u ≡ cond (same_id u own) (suc (count_of x own)) (count_of x u)
    at u = ap (λ (es : Entries). count_in es u) e ∙ count-raised x.entries own u

-- ---- the answers exclude each other

order_is : (x y : Clock) (f b : Bool) → covers x y ≡ f → covers y x ≡ b
    → order_of x y ≡ cond f (cond b answer.Equal answer.Newer) (cond b answer.Older answer.Apart)
order_is x y f b p q = ap₂ (λ s t. cond s (cond t answer.Equal answer.Newer) (cond t answer.Older answer.Apart)) p q

no_cover : (x y : Clock) → ¬ (Covers x y) → covers x y ≡ false
no_cover x y h = elim (covers x y) as (λ b. covers x y ≡ b → b ≡ false) [
  | true ↦ λ p. absurd (h (covers_at x y p))
  | false ↦ λ _. refl
] refl

pub one_answer : (x y : Clock) (r : Order) → Compares x y r → r ≡ order_of x y
one_answer x y answer.Equal e =
    sym (order_is x y true true (subst (λ z. covers x z ≡ true) e (covers-itself x))
    (subst (λ z. covers z x ≡ true) e (covers-itself x)))
one_answer x y answer.Newer h =
    sym (order_is x y true false (covers_from x y h.0) (not_covered x y (covers_from x y h.0) h.1))
one_answer x y answer.Older h =
    sym (order_is x y false true (not_covered y x (covers_from y x h.0) h.1) (covers_from y x h.0))
one_answer x y answer.Apart h = sym (order_is x y false false (no_cover x y h.0) (no_cover y x h.1))

-- a join that is a clock has at most 64 entries
pub IsJoin-few : (x y z : Clock) → IsJoin x y z → occurring x y ≤ 64
IsJoin-few x y z j =
    subst (λ (n : ℕ). n ≤ 64) (ap (λ (es : Entries). length es) (entries-IsJoin x y z j) ∙ length-occurring x y)
    (few_entries z)

-- a clock that counts as the raised one has the raised entries
pub entries-IsNext : (x z : Clock) (own : Uid) → IsNext x own z → z.entries ≡ raised x.entries own
entries-IsNext x z own n =
    same_entries-count z.entries (raised x.entries own) (counted z) (is_counts-raised x.entries own (counted x)) at
  where
    one_more : (m k : ℕ) → m ≡ k + 1 → m ≡ suc k
    one_more m k e = omega arith

    at : (u : Uid) → count_of z u ≡ count_in (raised x.entries own) u
    at u =
        elim (same_id u own) as (λ b. same_id u own ≡ b → count_of z u ≡ cond b (suc (count_of x own)) (count_of x u)) [
          | true ↦ λ t. ap (count_of z) (same_id_is u own t) ∙ one_more _ _ n.raised
          | false ↦ λ t. n.others u (λ e. true≢false (sym (same_id-itself own) ∙ ap (λ v. same_id v own) (sym e) ∙ t))
        ] refl ∙ sym (count-raised x.entries own u)

-- a full clock has no raised clock
pub IsNext-room : (x z : Clock) (own : Uid) → IsNext x own z → ¬ (IsFull x own)
IsNext-room x z own n (inl greatest) = omega (arith, n.raised, greatest, count_of-small z own)
IsNext-room x z own n (inr full) =
    let long : length z.entries ≡ cond (is_some (find id_cmp own x.entries)) (length x.entries) (length x.entries + 1) =
    ap (λ (es : Entries). length es) (entries-IsNext x z own n)
    ∙ length-put id_cmp nat_list_cmp_total own (suc (count_of x own)) x.entries (first _ _ x.well) in
    let absent : is_some (find id_cmp own x.entries) ≡ false =
    is_some-count _ (find_counted x.entries own (second (is_sorted id_cmp x.entries) _ (counted x)))
    ∙ ap (λ k. ltb 0 k) full.0 in
    omega (arith, long ∙ ap (λ b. cond b (length x.entries) (length x.entries + 1)) absent, full.1, few_entries z)

-- ---- the program's `==`

same_entry_decides : (e f : Uid × ℕ) → Decides (same_entry e f) (e ≡ f)
same_entry_decides e f = (
  λ h. let parts = and_parts (pointwise nat_eq e.0 f.0) (nat_eq e.1 f.1) h in
      λ i. ((bytes_decides e.0 f.0).0 parts.0 i, eqb-true e.1 f.1 parts.1 i),
  λ same. and_from (pointwise nat_eq e.0 f.0) (nat_eq e.1 f.1)
      ((bytes_decides e.0 f.0).1 (ap (λ (g : Uid × ℕ). g.0) same)) (eq-eqb e.1 f.1 (ap (λ (g : Uid × ℕ). g.1) same)),
)

-- it is true of equal clocks alone
pub same_decides : (x y : Clock) → Decides (same x y) (x ≡ y)
same_decides x y = (
  λ h. same_record x y ((pointwise_decides same_entry_decides x.entries y.entries).0 h),
  λ e. (pointwise_decides same_entry_decides x.entries y.entries).1 (ap (λ (z : Clock). z.entries) e),
)
