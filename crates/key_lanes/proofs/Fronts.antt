-- The longest common front of two lists, and what it decides of their order.
use Rattle.std.proofs.Common.{◌≡◌, ◌≢◌, ℕ, zero, suc, ◌+◌, ◌<◌, ◌≤◌, min, eqb, List, [], ◌∷◌, length, get_or, refl, sym}
use Rattle.std.proofs.Common.{ap, ◌∙◌, arith, inl, inr, ◌⊎◌}
use Rattle.std.specs.Cmp.{nat_cmp_is}
use Rattle.std.specs.Cmp.Lexicographic.{slice_cmp}
use Rattle.std.specs.List.{common_prefix_len}
use Rattle.std.specs.Ordering.{nat_cmp, ordering_then}
use Rattle.std.specs.declared.cmp.Ordering.{Ordering}
use Rattle.std.specs.declared.cmp.Ordering.TheVariants.{Less, Equal, Greater}
use Rattle.std.proofs.lemmas.Bool.{cases_eq, cases_lt, eq-eqb, ne_eqb, cond-true, cond-false}
use Rattle.key_lanes.specs.inner.Blocks.{EqualBetween, IsFirstDifference}

prefix_more : (x y : ℕ) (a b : List ℕ) → x ≡ y → common_prefix_len eqb (x ∷ a) (y ∷ b) ≡ 1 + common_prefix_len eqb a b
prefix_more x y a b same = cond-true _ _ _ (eq-eqb x y same)

prefix_ends : (x y : ℕ) (a b : List ℕ) → x ≢ y → common_prefix_len eqb (x ∷ a) (y ∷ b) ≡ 0
prefix_ends x y a b other = cond-false _ _ _ (ne_eqb x y other)

-- a front that is equal and is followed by a difference, or by the end of one of the two, is the longest
pub common_prefix_is : (a b : List ℕ) (n : ℕ) → n ≤ length a → n ≤ length b → EqualBetween a b 0 n
    → (n < length a → n < length b → get_or a n 0 ≢ get_or b n 0)
    → n ≡ common_prefix_len eqb a b
common_prefix_is [] b n in_a in_b same ends = omega arith
common_prefix_is (x ∷ a) [] n in_a in_b same ends = omega arith
common_prefix_is (x ∷ a) (y ∷ b) zero in_a in_b same ends = sym (prefix_ends x y a b (ends (omega arith) (omega arith)))
common_prefix_is (x ∷ a) (y ∷ b) (suc n) in_a in_b same ends =
    let rest = common_prefix_is a b n (omega arith) (omega arith)
    (λ k from to. same (suc k) (omega arith) (omega arith)) (λ m n. ends (omega arith) (omega arith)) in
    omega (arith, prefix_more x y a b (same 0 (omega arith) (omega arith)), rest)

-- what is equal up to `at`, and from a place at or before it on
joined : (a b : List ℕ) (at from high : ℕ) → EqualBetween a b 0 at → from ≤ at → EqualBetween a b from high
    → EqualBetween a b 0 high
joined a b at from high front overlaps back k low to =
    elim (cases_lt k at) [ inl early ↦ front k low early | inr late ↦ back k (omega arith) to ]

-- the common front ends at the first difference behind what is equal
pub prefix_to_difference : (a b : List ℕ) (at from place : ℕ) → EqualBetween a b 0 at → from ≤ at → place < length a
    → place < length b
    → IsFirstDifference a b from place → place ≡ common_prefix_len eqb a b
prefix_to_difference a b at from place front overlaps in_a in_b is =
    common_prefix_is a b place (omega arith) (omega arith) (joined a b at from place front overlaps is.2) (λ m n. is.1)

-- where there is no difference it ends with the shorter of the two
pub prefix_is_whole : (a b : List ℕ) (at from len : ℕ) → EqualBetween a b 0 at → from ≤ at
    → len ≡ min (length a) (length b)
    → EqualBetween a b from len → len ≡ common_prefix_len eqb a b
prefix_is_whole a b at from len front overlaps whole back =
    common_prefix_is a b len (omega arith) (omega arith) (joined a b at from len front overlaps back)
    (λ m n. absurd (omega arith))

nat_cmp-same : (x y : ℕ) → x ≡ y → nat_cmp x y ≡ Equal
nat_cmp-same x y same = sym (nat_cmp_is x y Equal same)

nat_cmp-next : (m n : ℕ) → nat_cmp m n ≡ nat_cmp (suc m) (suc n)
nat_cmp-next m n = elim (cases_lt m n) [
  | inl less ↦ sym (nat_cmp_is m n Less less) ∙ nat_cmp_is (suc m) (suc n) Less (omega arith)
  | inr not_less ↦ elim (cases_eq m n) [
    | inl same ↦ ap (λ k. nat_cmp m k) (sym same) ∙ sym (nat_cmp_is m m Equal refl)
        ∙ nat_cmp_is (suc m) (suc n) Equal (ap suc same)
    | inr other ↦ sym (nat_cmp_is m n Greater (omega arith)) ∙ nat_cmp_is (suc m) (suc n) Greater (omega arith)
  ]
]

then_same : (x y : ℕ) (rest : Ordering) → x ≡ y → ordering_then (nat_cmp x y) rest ≡ rest
then_same x y rest same = ap (λ o. ordering_then o rest) (nat_cmp-same x y same)

then_other : (x y : ℕ) (rest : Ordering) → x ≢ y → ordering_then (nat_cmp x y) rest ≡ nat_cmp x y
then_other x y rest other = elim (cases_lt x y) [
  | inl less ↦ let is = nat_cmp_is x y Less less in rw (← is) refl
  | inr more ↦ let is = nat_cmp_is x y Greater (omega arith) in rw (← is) refl
]

-- where both go on behind the common front, the next bytes decide
pub slice_cmp-at_difference : (a b : List ℕ) (n : ℕ) → n ≡ common_prefix_len eqb a b → n < length a → n < length b
    → slice_cmp nat_cmp a b ≡ nat_cmp (get_or a n 0) (get_or b n 0)
slice_cmp-at_difference [] b n is in_a in_b = absurd (omega arith)
slice_cmp-at_difference (x ∷ a) [] n is in_a in_b = absurd (omega arith)
slice_cmp-at_difference (x ∷ a) (y ∷ b) zero is in_a in_b = elim (cases_eq x y) [
  | inl same ↦ absurd (omega (arith, prefix_more x y a b same))
  | inr other ↦ then_other x y (slice_cmp nat_cmp a b) other
]
slice_cmp-at_difference (x ∷ a) (y ∷ b) (suc n) is in_a in_b = elim (cases_eq x y) [
  | inl same ↦ then_same x y (slice_cmp nat_cmp a b) same
      ∙ slice_cmp-at_difference a b n (omega (arith, prefix_more x y a b same)) (omega arith) (omega arith)
  | inr other ↦ absurd (omega (arith, prefix_ends x y a b other))
]

-- where one of the two is the common front, their lengths decide
pub slice_cmp-of_front : (a b : List ℕ) (n : ℕ) → n ≡ common_prefix_len eqb a b → (n ≡ length a) ⊎ (n ≡ length b)
    → slice_cmp nat_cmp a b ≡ nat_cmp (length a) (length b)
slice_cmp-of_front [] [] n is front = nat_cmp_is 0 0 Equal refl
slice_cmp-of_front [] (y ∷ b) n is front = nat_cmp_is 0 (length (y ∷ b)) Less (omega arith)
slice_cmp-of_front (x ∷ a) [] n is front = nat_cmp_is (length (x ∷ a)) 0 Greater (omega arith)
slice_cmp-of_front (x ∷ a) (y ∷ b) zero is front =
    absurd (elim front [ inl h ↦ omega (arith, h) | inr h ↦ omega (arith, h) ])
slice_cmp-of_front (x ∷ a) (y ∷ b) (suc n) is front = elim (cases_eq x y) [
  | inl same ↦
      let rest = slice_cmp-of_front a b n (omega (arith, prefix_more x y a b same))
      (elim front [ inl h ↦ inl (omega (arith, h)) | inr h ↦ inr (omega (arith, h)) ]) in
      then_same x y (slice_cmp nat_cmp a b) same ∙ rest ∙ nat_cmp-next (length a) (length b)
  | inr other ↦ absurd (omega (arith, prefix_ends x y a b other))
]
