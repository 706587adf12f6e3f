-- The entries that a pattern or a range finds stand together in a table.
use Rattle.std.proofs.Common.{◌≡◌, ◌≢◌, ℕ, Bool, true, false, ◌&&◌, List, length, get_or, drop, All, Option, Some, None}
use Rattle.std.proofs.Common.{refl, sym, ◌∙◌, ap, arith, Ordering, Less, Equal, Greater}
use Rattle.std.proofs.lemmas.Cmp.{upto}
use Rattle.std.specs.List.{filter, take_while}
use Rattle.std.specs.Ordering.{is_gt, is_le, ordering_then, ordering_reverse}
use Rattle.index_tables.specs.Order.{Entry, FallsAt, IsInOrder, entry_cmp, key_cmp}
use Rattle.index_tables.proofs.TotalOrders.{key_total}
use Rattle.u1_base.specs.Ids.{id_cmp}
use Rattle.u1_base.proofs.Booleans.{none_true}
use Rattle.query_range.specs.Answers.{is_between, is_from, is_to}
use Rattle.query_range.specs.inner.Floor.{floor_of}
use Rattle.query_range.specs.Patterns.{IsPattern, meets}
use Rattle.query_range.specs.inner.Wanted.{StartsAt}
use Rattle.query_range.specs.declared.pattern.Part.{Part}
use Rattle.query_range.proofs.Meeting.{floor_below, meets_between}
use Rattle.query_range.proofs.Runs.{run}

-- keys of entries in order do not fall
not_above : (p q : Entry) → entry_cmp p q ≡ Less → key_cmp p.0 q.0 ≢ Greater
not_above p q less = by (key_cmp p.0 q.0) less
  where
    by : (r : Ordering) → ordering_then r (id_cmp p.1 q.1) ≡ Less → r ≢ Greater
    by Less h = λ e. absurd (cc)
    by Equal h = λ e. absurd (cc)
    by Greater h = λ e. absurd (cc)

module _ (parts : List Part) (ps : List Entry) (place : ℕ) where
  pub pattern_run : IsPattern parts → All (λ p. length p.0 ≡ length parts) ps → IsInOrder ps
      → FallsAt ps (floor_of parts) place
      → filter (λ p. meets parts p.0) ps ≡ take_while (λ p. meets parts p.0) (drop place ps)
  pattern_run pattern widths order falls =
      run (λ p. meets parts p.0) (λ p. meets parts p.0) ps place falls.within
      (λ k d lt. none_true (meets parts (get_or ps k d).0)
      (λ is. floor_below parts (get_or ps k d).0 is (falls.before k d (omega arith) lt)))
      (λ k d low lt. refl)
      (λ i k d low lt in_ps is.
      meets_between parts (get_or ps i d).0 (get_or ps k d).0 pattern (widths i d (omega arith))
      (falls.after i d low (omega arith)) (not_above (get_or ps i d) (get_or ps k d) (order i k d lt in_ps)) is)

pub le_gt : (r : Ordering) → is_le r ≡ true → is_gt r ≡ false
le_gt Less h = refl
le_gt Equal h = refl
le_gt Greater h = absurd (cc)

pub gt_le : (r : Ordering) → is_gt r ≡ false → is_le r ≡ true
gt_le Less h = refl
gt_le Equal h = refl
gt_le Greater h = absurd (cc)

not_gt : (r : Ordering) → r ≢ Greater → is_gt r ≡ false
not_gt Less h = refl
not_gt Equal h = refl
not_gt Greater h = absurd (h refl)

-- a key before one that is not above the end is not above it either
to_before : (end : Option (List (List ℕ))) (key upper : List (List ℕ)) → key_cmp key upper ≢ Greater
    → is_to end upper ≡ true → is_to end key ≡ true
to_before None key upper high is = refl
to_before (Some end) key upper high is = gt_le (key_cmp key end)
    (upto key_total key upper end (not_gt (key_cmp key upper) high) (le_gt (key_cmp upper end) is))

both_true : (a b c : Bool) → a ≡ true → b ≡ c → (a && b) ≡ c
both_true true b c h is = is
both_true false b c h is = absurd (cc)

first_false : (a b : Bool) → a ≡ false → (a && b) ≡ false
first_false true b h = absurd (cc)
first_false false b h = refl

module _ (start end : Option (List (List ℕ))) (ps : List Entry) (place : ℕ) (taken : List (List ℕ) → Bool) where
  pub range_run : ((key : List (List ℕ)) → taken key ≡ is_to end key) → IsInOrder ps → StartsAt start ps place
      → filter (λ p. is_between start end p.0) ps ≡ take_while (λ p. taken p.0) (drop place ps)
  range_run told order starts =
      run (λ p. is_between start end p.0) (λ p. taken p.0) ps place starts.within
      (λ k d lt. first_false (is_from start (get_or ps k d).0) (is_to end (get_or ps k d).0)
      (starts.before k d (omega arith) lt))
      (λ k d low lt. both_true (is_from start (get_or ps k d).0) (is_to end (get_or ps k d).0)
      (taken (get_or ps k d).0) (starts.after k d low lt) (sym (told (get_or ps k d).0)))
      (λ i k d low lt in_ps is.
      told (get_or ps i d).0
      ∙ to_before end (get_or ps i d).0 (get_or ps k d).0
      (not_above (get_or ps i d) (get_or ps k d) (order i k d lt in_ps)) (sym (told (get_or ps k d).0) ∙ is))

-- ---- where a range starts

below_start : (key start : List (List ℕ)) → key_cmp key start ≡ Less → is_le (key_cmp start key) ≡ false
below_start key start less = ap is_le (key_total.antisymm start key ∙ ap ordering_reverse less)

from_start : (key start : List (List ℕ)) → key_cmp key start ≢ Less → is_le (key_cmp start key) ≡ true
from_start key start not_less = ap is_le (key_total.antisymm start key) ∙ by (key_cmp key start) not_less
  where
    by : (r : Ordering) → r ≢ Less → is_le (ordering_reverse r) ≡ true
    by Less h = absurd (h refl)
    by Equal h = refl
    by Greater h = refl

pub starts_at : (ps : List Entry) (start : List (List ℕ)) (place : ℕ) → FallsAt ps start place
    → StartsAt (Some start) ps place
starts_at ps start place falls = record {
  within = falls.within;
  before = λ k d low lt. below_start (get_or ps k d).0 start (falls.before k d low lt);
  after = λ k d low lt. from_start (get_or ps k d).0 start (falls.after k d low lt);
}
