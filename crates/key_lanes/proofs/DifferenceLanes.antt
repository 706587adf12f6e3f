-- The lanes of two blocks that differ.
use Rattle.std.proofs.Common.{◌≡◌, ℕ, ◌+◌, ◌%◌, ◌^◌, ◌<◌, ◌≤◌, eqb, Bool, not, List, map, length, get_or, ap₂, ◌∙◌}
use Rattle.std.proofs.Common.{arith}
use Rattle.std.specs.Prelude.{Option, MatchOption}
use Rattle.std.proofs.lemmas.Bool.{eqb-true, eqb-false, not-true, not-false}
use Rattle.std.proofs.lemmas.Simd.{length-chunk, get_or-chunk}
use lib.Lanes.{chunk, mask_l, top}
use Rattle.key_lanes.specs.inner.Blocks.{first_set, EqualBetween, IsFirstDifference}
use Rattle.key_lanes.proofs.Masks.{Fails, IsFirstLane, match_map, first_lane, compared, length-compared, top-compared}

abbrev differ : ℕ → ℕ → Bool
differ x y = not (eqb x y)

abbrev differ_at : List ℕ → List ℕ → ℕ → Bool
differ_at a b k = differ (get_or a k 0) (get_or b k 0)

Fails-EqualBetween : (a b : List ℕ) (low high : ℕ) → Fails (differ_at a b) low high → EqualBetween a b low high
Fails-EqualBetween a b low high none k from to = eqb-true _ _ (not-false _ (none k from to))

pub difference_lane : (n : ℕ) (a b : List ℕ) (at : ℕ) (found : Option ℕ) → n ≤ 64 → at + n ≤ length a
    → at + n ≤ length b
    → found ≡ first_set (mask_l (map (top 7) (compared differ (chunk at n a) (chunk at n b))) % 2 ^ 64)
    → MatchOption found (EqualBetween a b at (at + n)) (λ lane. (lane < n) × IsFirstDifference a b at (at + lane))
difference_lane n a b at found few in_a in_b is =
    let xs = chunk at n a in
    let ys = chunk at n b in
    let long_x = length-chunk at n a in_a in
    let long_y = length-chunk at n b in_b in
    let says : (j : ℕ) → j < n → top 7 (get_or (compared differ xs ys) j 0) ≡ differ_at a b (at + j) =
    λ j lt. top-compared n xs ys long_x long_y differ j lt
    ∙ ap₂ differ (get_or-chunk at n a j 0 lt) (get_or-chunk at n b j 0 lt) in
    let first = first_lane (differ_at a b) at n (compared differ xs ys)
    (length-compared n xs ys long_x long_y differ) few says in
    rw is (match_map (IsFirstLane (differ_at a b) at n) (λ lane. (lane < n) × IsFirstDifference a b at (at + lane)) _
    (Fails-EqualBetween a b at (at + n))
    (λ lane one. (
      one.inside,
      (omega arith, eqb-false _ _ (not-true _ one.passes), Fails-EqualBetween a b at (at + lane) one.before),
    ))
    first)
