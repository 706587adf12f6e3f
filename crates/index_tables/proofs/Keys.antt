-- The order of keys, text by text.
use Rattle.std.proofs.Common.{◌≡◌, ℕ, ◌<◌, ◌≤◌, ◌⊎◌, List, [], ◌∷◌, length, drop, zero, suc, refl, ◌∙◌, ap, arith, inl}
use Rattle.std.proofs.Common.{inr, Ordering, Less, Equal, Greater, nat_cmp}
use Rattle.std.specs.Cmp.{nat_cmp_is, ranks}
use Rattle.std.specs.Cmp.Lexicographic.{slice_cmp}
use Rattle.std.specs.Ordering.{MatchOrdering}

raised : (r : Ordering) (m n : ℕ) → MatchOrdering r (m < n) (m ≡ n) (n < m)
    → MatchOrdering r (suc m < suc n) (suc m ≡ suc n) (suc n < suc m)
raised Less m n p = omega arith
raised Equal m n p = ap suc p
raised Greater m n p = omega arith

nat_cmp-next : (m n : ℕ) → nat_cmp m n ≡ nat_cmp (suc m) (suc n)
nat_cmp-next m n = nat_cmp_is (suc m) (suc n) (nat_cmp m n) (raised (nat_cmp m n) m n (ranks m n))

module _ {T : Type 0} (R : T → T → Ordering) where
  -- where one of the two ends, the lengths decide
  pub cmp-at_end : (a b : List T) (at : ℕ) → at ≤ length a → at ≤ length b → (length a ≤ at) ⊎ (length b ≤ at)
      → slice_cmp R (drop at a) (drop at b) ≡ nat_cmp (length a) (length b)
  cmp-at_end [] [] zero in_a in_b ends = refl
  cmp-at_end [] [] (suc at) in_a in_b ends = absurd (omega arith)
  cmp-at_end [] (y ∷ b) zero in_a in_b ends = nat_cmp_is 0 (length (y ∷ b)) Less (omega arith)
  cmp-at_end [] (y ∷ b) (suc at) in_a in_b ends = absurd (omega arith)
  cmp-at_end (x ∷ a) [] zero in_a in_b ends = nat_cmp_is (length (x ∷ a)) 0 Greater (omega arith)
  cmp-at_end (x ∷ a) [] (suc at) in_a in_b ends = absurd (omega arith)
  cmp-at_end (x ∷ a) (y ∷ b) zero in_a in_b ends = absurd (elim ends [ inl e ↦ omega arith | inr e ↦ omega arith ])
  cmp-at_end (x ∷ a) (y ∷ b) (suc at) in_a in_b ends =
      cmp-at_end a b at (omega arith) (omega arith)
      (elim ends [ inl e ↦ inl (omega arith) | inr e ↦ inr (omega arith) ])
      ∙ nat_cmp-next (length a) (length b)
