-- When the entries that are made are those of a clock.
use Rattle.std.specs.Prelude.{◌≡◌, ℕ, zero, suc, ◌+◌, ◌-◌, ◌≤◌, ◌<◌, max, Bool, true, false, cond, ◌&&◌, T, nat_le}
use Rattle.std.specs.Prelude.{List, [], ◌∷◌, ◌++◌, length, drop, Option, Some, None, Result, Ok, Err, IfOk, is_some}
use Rattle.std.specs.Prelude.{refl}
use Rattle.std.specs.List.{list_all}
use Rattle.std.specs.FinMap.Entries.{find, is_sorted, length-put}
use Rattle.std.specs.Cmp.Lexicographic.{nat_list_cmp_total}
use Rattle.std.proofs.Common.{sym, ◌∙◌, ap, arith, true≢false, leb-true, get_or}
use Rattle.u1_base.specs.Ids.{id_cmp, same_id}
use Rattle.u1_base.specs.declared.limits.TheConstants.{MOST_CLOCK_ENTRIES}
use Rattle.u1_base.proofs.Booleans.{none_true}
use Rattle.u1_base.proofs.SameIds.{same_id_is, same_id-itself}
use Rattle.vector_rev.specs.Counts.{Uid, Entries, count_in, raised, join}
use Rattle.vector_rev.specs.Clock.{Clock, count_of, is_clock, is_entry, clock_of}
use Rattle.vector_rev.specs.Made.{IsFull, IsFirst}
use Rattle.vector_rev.proofs.CountsLaws.{is_counts, is_counts-raised, is_counts-join, same_entries-count, count-raised}
use Rattle.vector_rev.proofs.CountsLaws.{count-join, length-join-right, sorted_of}
use Rattle.vector_rev.proofs.ClockLaws.{counted, IsNext-entries, IsNext-room}
use Rattle.vector_rev.proofs.RoundTrip.{clock_of-entries, entries-clock_of, clock_of-none}
use Rattle.vector_rev.proofs.Truths.{second, T_true, true_T}
use Rattle.conflicts.specs.Making.{joined, made_clock, greatest}

-- a full clock has no raised clock
pub full_is_none : (x : Clock) (own : Uid) → IsFull x own → clock_of (raised x.entries own) ≡ None
full_is_none x own full =
    elim (clock_of (raised x.entries own)) as (λ o. clock_of (raised x.entries own) ≡ o → o ≡ None) [
      | None ↦ λ _. refl
      | Some z ↦ λ e. absurd (IsNext-room x z own
          (IsNext-entries x z own (sym (entries-clock_of z (raised x.entries own) e))) full)
    ] refl

-- the clock that counts the own uid once is the raised empty one
pub first_is_raised : (own : Uid) (z : Clock) → IsFirst own z → clock_of (raised [] own) ≡ Some z
first_is_raised own z h =
    clock_of-entries z (raised [] own)
    (sym (same_entries-count z.entries (raised [] own) (counted z) (is_counts-raised [] own tt) at))
  where
    at : (u : Uid) → count_of z u ≡ count_in (raised [] own) u
    at u = same_at u ∙ sym (count-raised [] own u)
      where
        same_at : (u : Uid) → count_of z u ≡ cond (same_id u own) 1 0
        same_at u =
            elim (same_id u own) as (λ b. same_id u own ≡ b → count_of z u ≡ cond b 1 0) [
              | true ↦ λ t. ap (count_of z) (same_id_is u own t) ∙ h.one
              | false ↦ λ t. h.others u
                  (λ e. true≢false (sym (same_id-itself own) ∙ ap (λ v. same_id v own) (sym e) ∙ t))
            ] refl

pub first_result : {E : Type 0} (own : Uid) (r : Result Clock E) → IfOk r (IsFirst own)
    → IfOk r (λ z. made_clock own [] ≡ Some z)
first_result own (Ok z) h = first_is_raised own z h
first_result own (Err e) h = tt

-- the joined entries are in order, and count
joined_counts : (cs : List Clock) → T (is_counts (joined cs))
joined_counts [] = tt
joined_counts (c ∷ cs) =
    is_counts-join c.entries (joined cs) (second (is_sorted id_cmp c.entries) _ (counted c)) (joined_counts cs)

-- a join with nothing
pub joined_one : (c : Clock) → joined (c ∷ []) ≡ c.entries
joined_one c = same_entries-count (join c.entries []) c.entries (joined_counts (c ∷ [])) (counted c)
    (λ u. count-join c.entries [] u ∙ nothing_more (count_of c u))
  where
    nothing_more : (n : ℕ) → max n 0 ≡ n
    nothing_more n = omega arith

-- a join with more clocks has no fewer entries
pub join_is_longer : (cs : List Clock) (i : ℕ) → length (joined (drop i cs)) ≤ length (joined cs)
join_is_longer cs zero = omega arith
join_is_longer [] (suc i) = omega arith
join_is_longer (c ∷ cs) (suc i) =
    omega (arith, join_is_longer cs i, length-join-right c.entries (joined cs) (counted c) (joined_counts cs))

few_entries : (es : Entries) → is_clock es ≡ true → length es ≤ MOST_CLOCK_ENTRIES
few_entries es h =
    leb-true (length es) MOST_CLOCK_ENTRIES
    (T_true _ (second (list_all is_entry es && nat_le 1 (length es)) _ (second (is_sorted id_cmp es) _ (true_T _ h))))

longer_put : (b : Bool) (n : ℕ) → n ≤ cond b n (n + 1)
longer_put true n = omega arith
longer_put false n = omega arith

-- joined clocks with more than 64 entries are no clock, raised or not
pub too_many_is_none : (cs : List Clock) (own : Uid) → MOST_CLOCK_ENTRIES < length (joined cs)
    → made_clock own cs ≡ None
too_many_is_none cs own many =
    clock_of-none (raised (joined cs) own)
    (none_true _ (λ h.
    let short : length (raised (joined cs) own) ≤ MOST_CLOCK_ENTRIES = few_entries _ h in
    let long : length (raised (joined cs) own) ≡ cond (is_some (find id_cmp own (joined cs))) (length (joined cs))
    (length (joined cs) + 1) = length-put id_cmp nat_list_cmp_total own (suc (count_in (joined cs) own)) (joined cs)
    (sorted_of (joined cs) (joined_counts cs)) in
    absurd (omega (arith, short, long, many, longer_put (is_some (find id_cmp own (joined cs))) (length (joined cs))))))

-- ---- what a joined and a made clock count

pub count-joined : (own : Uid) (cs : List Clock) → count_in (joined cs) own ≡ greatest own cs
count-joined own [] = refl
count-joined own (c ∷ cs) = count-join c.entries (joined cs) own ∙ ap (max (count_of c own)) (count-joined own cs)

pub greatest-append : (own : Uid) (xs ys : List Clock)
    → greatest own (xs ++ ys) ≡ max (greatest own xs) (greatest own ys)
greatest-append own [] ys = omega arith
greatest-append own (x ∷ xs) ys = omega (arith, greatest-append own xs ys)

-- ---- the join from the last clock on

pub join_start : (cs : List Clock) (i : ℕ) (x z : Clock) → 1 ≤ length cs → i ≡ length cs - 1 → x ≡ get_or cs i x
    → z ≡ x → z.entries ≡ joined (drop i cs)
join_start cs i x z some at here e =
    ap (λ (c : Clock). c.entries) e ∙ sym (joined_one x) ∙ ap joined (sym (last_of cs i x some at here))
  where
    last_of : (cs : List Clock) (i : ℕ) (x : Clock) → 1 ≤ length cs → i ≡ length cs - 1 → x ≡ get_or cs i x
        → drop i cs ≡ x ∷ []
    last_of [] i x some at here = absurd (omega arith)
    last_of (c ∷ []) zero x some at here = ap (λ y. y ∷ []) (sym here)
    last_of (c ∷ []) (suc i) x some at here = absurd (omega arith)
    last_of (c ∷ d ∷ cs) zero x some at here = absurd (omega arith)
    last_of (c ∷ d ∷ cs) (suc i) x some at here = last_of (d ∷ cs) i x (omega arith) (omega arith) here

place_of : (cs : List Clock) (i : ℕ) (x : Clock) → i < length cs → x ≡ get_or cs i x → drop i cs ≡ x ∷ drop (i + 1) cs
place_of [] i x low here = absurd (omega arith)
place_of (c ∷ cs) zero x low here = ap (λ y. y ∷ cs) (sym here)
place_of (c ∷ cs) (suc i) x low here = place_of cs i x (omega arith) here ∙ ap (λ n. x ∷ drop n (c ∷ cs)) (one_later i)
  where
    one_later : (i : ℕ) → suc (i + 1) ≡ suc i + 1
    one_later i = omega arith

join_at : (cs : List Clock) (i j : ℕ) (x all : Clock) → i < length cs → j ≡ i + 1 → x ≡ get_or cs i x
    → all.entries ≡ joined (drop j cs) → join x.entries all.entries ≡ joined (drop i cs)
join_at cs i j x all low next here e =
    ap (join x.entries) (e ∙ ap (λ n. joined (drop n cs)) next) ∙ ap joined (sym (place_of cs i x low here))

pub join_step : (cs : List Clock) (i j : ℕ) (x all z : Clock) → i < length cs → j ≡ i + 1 → x ≡ get_or cs i x
    → all.entries ≡ joined (drop j cs) → z.entries ≡ join x.entries all.entries → z.entries ≡ joined (drop i cs)
join_step cs i j x all z low next here e is = is ∙ join_at cs i j x all low next here e

pub join_many : (cs : List Clock) (i j : ℕ) (x all : Clock) → i < length cs → j ≡ i + 1 → x ≡ get_or cs i x
    → all.entries ≡ joined (drop j cs) → MOST_CLOCK_ENTRIES < length (join x.entries all.entries)
    → MOST_CLOCK_ENTRIES < length (joined cs)
join_many cs i j x all low next here e many =
    omega (arith, ap (λ (es : Entries). length es) (join_at cs i j x all low next here e), join_is_longer cs i)

-- one parent
pub one_parent : (ps : List Clock) (own : Uid) (x : Clock) → length ps ≡ 1 → x ≡ get_or ps 0 x
    → clock_of (raised x.entries own) ≡ made_clock own ps
one_parent [] own x one here = absurd (omega arith)
one_parent (p ∷ []) own x one here = ap (λ es. clock_of (raised es own))
    (ap (λ (c : Clock). c.entries) here ∙ sym (joined_one p))
one_parent (p ∷ q ∷ ps) own x one here = absurd (omega arith)

pub raised_then : {E : Type 0} (r : Result (Option Clock) E) (t u : Option Clock) → IfOk r (λ o. o ≡ t) → t ≡ u
    → IfOk r (λ o. o ≡ u)
raised_then (Ok v) t u h e = h ∙ e
raised_then (Err x) t u h e = tt

-- the clock that is made of one parent
pub made_one_is : (x : Clock) (own : Uid) (z : Clock) → z.entries ≡ raised x.entries own
    → Some z ≡ made_clock own (x ∷ [])
made_one_is x own z e =
    sym (ap (λ (es : Entries). clock_of (raised es own)) (joined_one x)
    ∙ clock_of-entries z (raised x.entries own) (sym e))

pub made_one_full : (x : Clock) (own : Uid) → IsFull x own → None ≡ made_clock own (x ∷ [])
made_one_full x own full =
    sym (ap (λ (es : Entries). clock_of (raised es own)) (joined_one x) ∙ full_is_none x own full)

pub made_joined : (ps : List Clock) (own : Uid) (z : Clock) → z.entries ≡ joined ps
    → made_clock own (z ∷ []) ≡ made_clock own ps
made_joined ps own z e = ap (λ (es : Entries). clock_of (raised es own)) (joined_one z ∙ e)
