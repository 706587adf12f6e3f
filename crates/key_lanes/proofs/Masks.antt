-- From the mask of a block to the first of its places that passes a test.
use Rattle.std.proofs.Common.{◌≡◌, ℕ, zero, suc, ◌+◌, ◌-◌, ◌*◌, ◌%◌, ◌^◌, ◌<◌, ◌≤◌, Bool, true, false, not, ◌&&◌, cond}
use Rattle.std.proofs.Common.{List, [], ◌∷◌, map, length, get_or, bit_and, w64, refl, sym, ap, ap₂, ◌∙◌, subst, arith}
use Rattle.std.specs.Prelude.{Option, Some, None, MatchOption}
use Rattle.std.specs.Int.{trailing_zeros}
use Rattle.std.specs.List.{prefix_len}
use Rattle.std.proofs.lemmas.Bool.{not-true, not-false}
use Rattle.std.proofs.lemmas.Simd.{mask_l-mod, leading_from_mask_l, trailing_mask_l, length-zip2, get_or-zip2}
use Rattle.std.proofs.lemmas.List.{length-map}
use Rattle.std.proofs.Math.Dec.{eqb-suc-zero}
use Rattle.std.proofs.lemmas.List.Sums.{prefix_len_passes, prefix_len_stops}
use lib.Lanes.{zip2, mask_l, top}
use Rattle.key_lanes.specs.inner.Blocks.{first_set}

-- the test fails at the places from `low` up to `high`
abbrev pub Fails : (ℕ → Bool) → ℕ → ℕ → Type 0
Fails test low high = (k : ℕ) → low ≤ k → k < high → test k ≡ false

-- of the n places from `at` on the one of this lane is the first that passes
pub record IsFirstLane (test : ℕ → Bool) (at n lane : ℕ) : Type 0 where
  pub inside : lane < n
  pub passes : test (at + lane) ≡ true
  pub before : Fails test at (at + lane)

-- where the lowest bit is asked for, there is none or there is one
first_set_cases : (mask : ℕ) (A : Type 0) (B : ℕ → Type 0) → (mask ≡ 0 → A) → (0 < mask → B (trailing_zeros w64 mask))
    → MatchOption (first_set mask) A B
first_set_cases zero A B none some = none refl
first_set_cases (suc n) A B none some =
    subst (λ b. MatchOption (cond b None (Some (trailing_zeros w64 (suc n)))) A B) (sym (eqb-suc-zero n))
    (some (omega arith))

pub match_map : {A A' : Type 0} (B B' : ℕ → Type 0) (found : Option ℕ) → (A → A') → ((n : ℕ) → B n → B' n)
    → MatchOption found A B → MatchOption found A' B'
match_map B B' None none some is = none is
match_map B B' (Some n) none some is = some n is

one_lane_more : (b : Bool) (mask lane len : ℕ) → (0 < mask → lane < len) → 0 < cond b 1 0 + 2 * mask
    → cond (not b) (1 + lane) 0 < 1 + len
one_lane_more true mask lane len rest some = omega arith
one_lane_more false mask lane len rest some = omega (arith, rest (omega arith))

-- a mask that is not 0 has a lane that passes
lane_passes : (p : ℕ → Bool) (xs : List ℕ) → 0 < mask_l (map p xs) → prefix_len (λ x. not (p x)) xs < length xs
lane_passes p [] some = absurd (omega arith)
lane_passes p (x ∷ xs) some =
    omega (
      arith,
      one_lane_more (p x) (mask_l (map p xs)) (prefix_len (λ x. not (p x)) xs) (length xs)
          (lane_passes p xs) some,
    )

-- the lanes of a mask, each of which says whether its place passes, give the first that does
pub first_lane : (test : ℕ → Bool) (at n : ℕ) (lanes : List ℕ) → length lanes ≡ n → n ≤ 64
    → ((j : ℕ) → j < n → top 7 (get_or lanes j 0) ≡ test (at + j))
    → MatchOption (first_set (mask_l (map (top 7) lanes) % 2 ^ 64)) (Fails test at (at + n)) (IsFirstLane test at n)
first_lane test at n lanes long few says =
    let fails : ℕ → Bool = λ x. not (top 7 x) in
    let mask = mask_l (map (top 7) lanes) in
    let whole : mask % 2 ^ 64 ≡ mask = mask_l-mod (map (top 7) lanes) 64 (omega (arith, length-map lanes (top 7))) in
    let early : (j : ℕ) → j < n → j < prefix_len fails lanes → test (at + j) ≡ false =
    λ j inside lt. sym (says j inside) ∙ not-true _ (prefix_len_passes fails lanes j 0 lt) in
    let at_place : (r : ℕ) → r ≤ n → r ≤ prefix_len fails lanes → Fails test at (at + r) =
    λ r inside le k from to.
    let back : at + (k - at) ≡ k = omega arith in
    subst (λ m. test m ≡ false) back (early (k - at) (omega arith) (omega arith)) in
    subst (λ m. MatchOption (first_set m) (Fails test at (at + n)) (IsFirstLane test at n)) (sym whole)
    (first_set_cases mask _ _
    (λ none. at_place n (omega arith) (omega (arith, leading_from_mask_l (top 7) lanes none)))
    (λ some.
    let lane = trailing_zeros w64 mask in
    let lane_is : lane ≡ prefix_len fails lanes = trailing_mask_l (top 7) 64 lanes (omega arith) some in
    let less = lane_passes (top 7) lanes some in
    record {
      inside = omega (arith, lane_is, less);
      passes = sym (says lane (omega (arith, lane_is, less)))
          ∙ not-false _ (ap (λ j. fails (get_or lanes j 0)) lane_is ∙ prefix_len_stops fails lanes 0 less);
      before = at_place lane (omega (arith, lane_is, less)) (omega (arith, lane_is));
    }))

-- what a comparison puts into a lane
abbrev pub flag : Bool → ℕ
flag b = cond b 255 0

top-flag : (b : Bool) → top 7 (flag b) ≡ b
top-flag true = refl
top-flag false = refl

top-both : (b c : Bool) → top 7 (bit_and (flag b) (flag c)) ≡ (b && c)
top-both true true = refl
top-both true false = refl
top-both false true = refl
top-both false false = refl

-- two vectors compared by t
abbrev pub compared : (ℕ → ℕ → Bool) → List ℕ → List ℕ → List ℕ
compared t xs ys = zip2 (λ x y. flag (t x y)) xs ys

module _ (n : ℕ) (xs ys : List ℕ) (long_x : length xs ≡ n) (long_y : length ys ≡ n) where
  pub length-compared : (t : ℕ → ℕ → Bool) → length (compared t xs ys) ≡ n
  length-compared t = length-zip2 {C = ℕ} (λ x y. flag (t x y)) xs ys (long_x ∙ sym long_y) ∙ long_x

  get_or-compared : (t : ℕ → ℕ → Bool) (j : ℕ) → j < n
      → get_or (compared t xs ys) j 0 ≡ flag (t (get_or xs j 0) (get_or ys j 0))
  get_or-compared t j lt = get_or-zip2 {Z = ℕ} (λ x y. flag (t x y)) xs ys j 0 0 0 (omega arith) (omega arith)

  pub top-compared : (t : ℕ → ℕ → Bool) (j : ℕ) → j < n
      → top 7 (get_or (compared t xs ys) j 0) ≡ t (get_or xs j 0) (get_or ys j 0)
  top-compared t j lt = ap (top 7) (get_or-compared t j lt) ∙ top-flag _

-- the lanes where two pairs of vectors both compare
module _ (n : ℕ) (xs ys us vs : List ℕ) (long_x : length xs ≡ n) (long_y : length ys ≡ n) (long_u : length us ≡ n)
    (long_v : length vs ≡ n) (s t : ℕ → ℕ → Bool) where
  pub length-both : length (zip2 bit_and (compared s xs ys) (compared t us vs)) ≡ n
  length-both =
      let long = length-compared n xs ys long_x long_y s in
      length-zip2 {C = ℕ} bit_and (compared s xs ys) (compared t us vs)
      (long ∙ sym (length-compared n us vs long_u long_v t)) ∙ long

  pub top-both_compared : (j : ℕ) → j < n
      → top 7 (get_or (zip2 bit_and (compared s xs ys) (compared t us vs)) j 0)
      ≡ (s (get_or xs j 0) (get_or ys j 0) && t (get_or us j 0) (get_or vs j 0))
  top-both_compared j lt =
      let first = get_or-compared n xs ys long_x long_y s j lt in
      let second = get_or-compared n us vs long_u long_v t j lt in
      let both = get_or-zip2 {Z = ℕ} bit_and (compared s xs ys) (compared t us vs) j 0 0 0
      (omega (arith, length-compared n xs ys long_x long_y s)) (omega (arith, length-compared n us vs long_u long_v t))
      in
      ap (top 7) (both ∙ ap₂ bit_and first second) ∙ top-both _ _
