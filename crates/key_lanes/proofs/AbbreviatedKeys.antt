-- The number of the first bytes decides the order of lists of bytes where numbers differ.
use Rattle.std.proofs.Common.{◌≡◌, ◌+◌, ◌*◌, ◌^◌, ◌<◌, ◌≤◌, ℕ, zero, suc, List, [], ◌∷◌, get_or, drop, refl, sym, ◌∙◌}
use Rattle.std.proofs.Common.{ap, subst, arith, pow-suc, mul-le-mul_right, Ordering, Less, Equal, Greater, nat_cmp}
use Rattle.std.proofs.Math.Nat.{pow-le-pow_right}
use Rattle.std.specs.Cmp.{ranks}
use Rattle.std.specs.Cmp.Lexicographic.{nat_list_cmp_total, slice_cmp}
use Rattle.std.specs.Ordering.{MatchOrdering, ordering_reverse, ordering_then}
use Rattle.key_lanes.specs.AbbreviatedKeys.{AreBytes, IsAbbreviatedKey, abbreviated_key}

pub key-nil : (n : ℕ) → abbreviated_key n [] ≡ 0
unfolding abbreviated_key
key-nil zero = refl
key-nil (suc n) = refl

-- so many bytes make no number beyond their places
key-below : (n : ℕ) (xs : List ℕ) → AreBytes xs → abbreviated_key n xs < 256 ^ n
unfolding abbreviated_key
key-below zero xs small = omega arith
key-below (suc n) [] small = pow-le-pow_right {n = 256} (omega arith) {i = 0} {j = suc n} (omega arith)
key-below (suc n) (x ∷ xs) small =
    let wide : 256 ^ suc n ≡ 256 ^ n * 256 = pow-suc 256 n in
    let byte : x < 256 = small 0 in
    let high : x * 256 ^ n ≤ 255 * 256 ^ n = mul-le-mul_right {m = x} {n = 255} (256 ^ n) (omega arith) in
    let low : abbreviated_key n xs < 256 ^ n = key-below n xs (λ k. small (suc k)) in
    let whole : x * 256 ^ n + abbreviated_key n xs < 256 ^ suc n = omega arith in
    whole

-- the first difference of the numbers is that of the bytes, or one of the lists ended there
pub key-order : (n : ℕ) (xs ys : List ℕ) → AreBytes xs → AreBytes ys → abbreviated_key n xs < abbreviated_key n ys
    → slice_cmp nat_cmp xs ys ≡ Less
unfolding abbreviated_key
key-order zero xs ys small others less = absurd (omega arith)
key-order (suc n) [] [] small others less = absurd (omega arith)
key-order (suc n) [] (y ∷ ys) small others less = refl
key-order (suc n) (x ∷ xs) [] small others less = absurd (omega arith)
key-order (suc n) (x ∷ xs) (y ∷ ys) small others less =
    let sums : x * 256 ^ n + abbreviated_key n xs < y * 256 ^ n + abbreviated_key n ys = less in
    elim (nat_cmp x y) as (λ (r : Ordering). MatchOrdering r (x < y) (x ≡ y) (y < x)
    → ordering_then r (slice_cmp nat_cmp xs ys) ≡ Less) [
      | Less ↦ λ below. refl
      | Equal ↦ λ tie.
          let high : x * 256 ^ n ≡ y * 256 ^ n = ap (λ (b : ℕ). b * 256 ^ n) tie in
          key-order n xs ys (λ k. small (suc k)) (λ k. others (suc k)) (omega arith)
      | Greater ↦ λ above.
          let high : (y + 1) * 256 ^ n ≤ x * 256 ^ n = mul-le-mul_right {m = y + 1} {n = x} (256 ^ n) (omega arith) in
          let low : abbreviated_key n ys < 256 ^ n = key-below n ys (λ k. others (suc k)) in
          absurd (omega arith)
    ] (ranks x y)

module _ (n : ℕ) (xs ys : List ℕ) (a b : ℕ) (of_xs : IsAbbreviatedKey n xs a) (of_ys : IsAbbreviatedKey n ys b) where
  pub less_by_key : a < b → Less ≡ slice_cmp nat_cmp xs ys
  less_by_key less = sym (key-order n xs ys of_xs.1 of_ys.1 (omega (arith, of_xs.0, of_ys.0)))

  pub greater_by_key : b < a → Greater ≡ slice_cmp nat_cmp xs ys
  greater_by_key more = sym (nat_list_cmp_total.antisymm xs ys
      ∙ ap ordering_reverse (key-order n ys xs of_ys.1 of_xs.1 (omega (arith, of_xs.0, of_ys.0))))

-- ---- how a number is made

-- a number and its next byte, or nothing
widened : (number n : ℕ) → number * 256 ^ suc n ≡ number * 256 * 256 ^ n
widened number n = ap (λ (w : ℕ). number * w) (pow-suc 256 n) ∙ omega arith

ended : (left number byte : ℕ) → byte ≡ 0
    → number * 256 ^ suc left + abbreviated_key (suc left) [] ≡ (number * 256 + byte) * 256 ^ left
    + abbreviated_key left []
ended left number byte is =
    let wide : number * 256 ^ suc left ≡ number * 256 * 256 ^ left = widened number left in
    let gone : byte * 256 ^ left ≡ 0 = ap (λ (b : ℕ). b * 256 ^ left) is ∙ omega arith in
    let one : abbreviated_key (suc left) [] ≡ 0 = key-nil (suc left) in
    let other : abbreviated_key left [] ≡ 0 = key-nil left in
    omega arith

one_more : (left at number byte : ℕ) (bytes : List ℕ) → byte ≡ get_or bytes at 0
    → number * 256 ^ suc left + abbreviated_key (suc left) (drop at bytes) ≡ (number * 256 + byte) * 256 ^ left
    + abbreviated_key left (drop (suc at) bytes)
unfolding abbreviated_key
one_more left zero number byte [] is = ended left number byte is
one_more left (suc at) number byte [] is = ended left number byte is
one_more left zero number byte (b ∷ bytes) is =
    let wide : number * 256 ^ suc left ≡ number * 256 * 256 ^ left = widened number left in
    let same : byte * 256 ^ left ≡ b * 256 ^ left = ap (λ (b : ℕ). b * 256 ^ left) is in
    let sums : number * 256 ^ suc left + (b * 256 ^ left + abbreviated_key left bytes)
    ≡ (number * 256 + byte) * 256 ^ left + abbreviated_key left bytes = omega arith in
    sums
one_more left (suc at) number byte (b ∷ bytes) is = one_more left at number byte bytes is

pub key_next : (number byte at next now left : ℕ) (bytes : List ℕ) (whole : ℕ) → next ≡ suc at → now ≡ suc left
    → byte ≡ get_or bytes at 0
    → whole ≡ number * 256 ^ now + abbreviated_key now (drop at bytes)
    → whole ≡ (number * 256 + byte) * 256 ^ left + abbreviated_key left (drop next bytes)
key_next number byte at next now left bytes whole more less is so =
    so
    ∙ subst (λ (n : ℕ). number * 256 ^ n + abbreviated_key n (drop at bytes) ≡ (number * 256 + byte) * 256 ^ left
    + abbreviated_key left (drop next bytes)) (sym less)
    (subst (λ (m : ℕ). number * 256 ^ suc left + abbreviated_key (suc left) (drop at bytes)
    ≡ (number * 256 + byte) * 256 ^ left + abbreviated_key left (drop m bytes)) (sym more)
    (one_more left at number byte bytes is))

pub key_fits : (number byte at next : ℕ) → next ≡ suc at → byte < 256 → number < 256 ^ at
    → number * 256 + byte < 256 ^ next
key_fits number byte at next more small fits =
    let wide : 256 ^ next ≡ 256 ^ at * 256 = ap (λ (n : ℕ). 256 ^ n) more ∙ pow-suc 256 at in
    omega arith

pub key_whole : (number at left : ℕ) (bytes : List ℕ) (whole : ℕ) → left ≡ 0
    → whole ≡ number * 256 ^ left + abbreviated_key left (drop at bytes) → number ≡ whole
unfolding abbreviated_key
key_whole number at left bytes whole none so =
    let last : whole ≡ number * 256 ^ 0 + abbreviated_key 0 (drop at bytes) =
    subst (λ (n : ℕ). whole ≡ number * 256 ^ n + abbreviated_key n (drop at bytes)) none so in
    omega arith
