-- Texts that begin with a prefix, in their order.
use Rattle.std.proofs.Common.{◌≡◌, ◌≢◌, ℕ, ◌<◌, Bool, true, false, ◌&&◌, List, [], ◌∷◌, refl, sym, subst, eq-eqb}
use Rattle.std.proofs.Common.{eqb-true, arith, Ordering, Less, Equal, Greater, nat_cmp}
use Rattle.std.proofs.lemmas.Cmp.{ranked}
use Rattle.std.specs.List.{starts_with}
use Rattle.std.specs.Ordering.{ordering_then}
use Rattle.std.specs.Prelude.{nat_eq}
use Rattle.u1_base.specs.Ids.{id_cmp}
use Rattle.u1_base.proofs.Booleans.{both, first, second}

-- the bytes that a text begins with, one by one
same_byte : (c e : ℕ) (p y : List ℕ) → starts_with nat_eq (e ∷ y) (c ∷ p) ≡ true → c ≡ e
same_byte c e p y begins = eqb-true c e (first (nat_eq c e) (starts_with nat_eq y p) begins)

-- a text that is not below a prefix begins with it, where a text does that is not below this text
pub begins_between : (p x y : List ℕ) → id_cmp x p ≢ Less → id_cmp x y ≢ Greater → starts_with nat_eq y p ≡ true
    → starts_with nat_eq x p ≡ true
begins_between [] x y low high begins = refl
begins_between (c ∷ p) [] y low high begins = absurd (low refl)
begins_between (c ∷ p) (d ∷ x) [] low high begins = absurd (cc)
begins_between (c ∷ p) (d ∷ x) (e ∷ y) low high begins =
    elim (nat_cmp d c) as (λ (r : Ordering). nat_cmp d c ≡ r → ordering_then r (id_cmp x p) ≢ Less
    → ordering_then r (id_cmp x y) ≢ Greater → starts_with nat_eq (d ∷ x) (c ∷ p) ≡ true) [
      | Less ↦ λ is l h. absurd (l refl)
      | Equal ↦ λ is l h. both (nat_eq c d) (starts_with nat_eq x p) (eq-eqb c d (sym (ranked d c Equal (sym is))))
          (begins_between p x y l h (second (nat_eq c e) (starts_with nat_eq y p) begins))
      | Greater ↦ λ is l h. absurd (h refl)
    ] refl low (subst (λ (n : ℕ). ordering_then (nat_cmp d n) (id_cmp x y) ≢ Greater)
    (sym (same_byte c e p y begins)) high)

-- a text that begins with a prefix is not below it
pub begins_above : (p x : List ℕ) → starts_with nat_eq x p ≡ true → id_cmp x p ≢ Less
begins_above [] [] begins = λ less. absurd (cc)
begins_above [] (d ∷ x) begins = λ less. absurd (cc)
begins_above (c ∷ p) [] begins = absurd (cc)
begins_above (c ∷ p) (d ∷ x) begins =
    elim (nat_cmp d c) as (λ (r : Ordering). nat_cmp d c ≡ r → ordering_then r (id_cmp x p) ≢ Less) [
      | Less ↦ λ is. absurd (differ d c (ranked d c Less (sym is)) (same_byte c d p x begins))
      | Equal ↦ λ is. begins_above p x (second (nat_eq c d) (starts_with nat_eq x p) begins)
      | Greater ↦ λ is less. absurd (cc)
    ] refl
  where
    differ : (m n : ℕ) → m < n → n ≡ m → ⊥
    differ m n lt is = omega arith
