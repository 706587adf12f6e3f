-- What the slots at hand say: which are there, and that a spare one stays.
use Rattle.std.proofs.Common.{◌≡◌, ℕ, ◌<◌, ◌≤◌, Option, None, Some, cond, is_some, refl, arith}
use Rattle.std.specs.Prelude.{IsSome}

module _ {X : Type 0} where
  pub some_if : (o : Option X) → 0 < cond (is_some o) 1 0 → IsSome o
  some_if None more = absurd (omega arith)
  some_if (Some x) more = refl

  pub one_if : (o : Option X) → 0 < cond (is_some o) 1 0 → ◌≡◌ {A = ℕ} (cond (is_some o) 1 0) 1
  one_if None more = absurd (omega arith)
  one_if (Some x) more = refl

  pub spare_stays : (o : Option X) (n m : ℕ) → cond (is_some o) 0 n ≡ 0 → 1 ≤ n → cond (is_some o) 0 m ≡ 0
  spare_stays None n m is some = absurd (omega (arith, is, some))
  spare_stays (Some x) n m is some = refl
