-- How counts of calls add up, and the pieces of a read.
use Rattle.std.proofs.Common.{◌≡◌, ◌⊎◌, ℕ, ◌+◌, ◌*◌, ◌^◌, ◌<◌, min, ⊎_elim, inl, inr, arith}
use Rattle.std.proofs.lemmas.Bool.{cases_lt}
use Rattle.disk_model.specs.Counts.{called, pieces}

-- calls, and then more of them
pub called_again : (m n before : ℕ) → called m (called n before) ≡ called (n + m) before
called_again m n before = omega arith

-- a place between two pieces, or at the end
abbrev pub IsPieceEnd : ℕ → ℕ → Type 0
IsPieceEnd n at = (at ≡ pieces at * 2 ^ 20) ⊎ (at ≡ n)

-- one piece more, up to the place e
pub one_more : (n at e : ℕ) → IsPieceEnd n at → at < n → e ≡ min n (at + 2 ^ 20) → pieces e ≡ pieces at + 1
one_more n at e whole inside next = ⊎_elim (λ w. omega (arith, w)) (λ w. omega (arith, w)) whole

pub next_end : (n at e : ℕ) → IsPieceEnd n at → at < n → e ≡ min n (at + 2 ^ 20) → IsPieceEnd n e
next_end n at e whole inside next =
    let count : pieces e ≡ pieces at + 1 = one_more n at e whole inside next in
    ⊎_elim
    (λ more. ⊎_elim (λ w. inl (omega (arith, next, more, count, w))) (λ w. inr (omega (arith, inside, w))) whole)
    (λ last. inr (omega (arith, next, last)))
    (cases_lt (at + 2 ^ 20) n)
