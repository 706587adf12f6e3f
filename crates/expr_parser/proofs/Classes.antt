-- What the classes of characters exclude.
use Rattle.std.proofs.Common.{◌≡◌, ℕ, ◌+◌, ◌-◌, ◌*◌, ◌<◌, ◌≤◌, Bool, true, false, ◌⊎◌, eqb, refl, subst, eqb-true}
use Rattle.std.proofs.Common.{arith, inl, inr}
use Rattle.std.proofs.lemmas.Bool.Decides.{nat_tests}
use Rattle.u1_base.proofs.Booleans.{none_true}
use Rattle.expr_parser.specs.Grammar.{is_white, is_part}
use Rattle.expr_parser.specs.Machine.{goes_on}

pub white_not_part : (c : ℕ) → is_white c ≡ true → is_part c ≡ false
unfolding is_part
white_not_part c white = rw white refl

-- the marks are no white space and no part of a field
pub is_white-dot : is_white 46 ≡ false
unfolding is_white
is_white-dot = refl

pub is_white-comma : is_white 44 ≡ false
unfolding is_white
is_white-comma = refl

pub is_white-open : is_white 40 ≡ false
unfolding is_white
is_white-open = refl

pub is_white-close : is_white 41 ≡ false
unfolding is_white
is_white-close = refl

pub is_part-dot : is_part 46 ≡ false
unfolding is_part is_white
is_part-dot = refl

pub is_part-comma : is_part 44 ≡ false
unfolding is_part is_white
is_part-comma = refl

pub is_part-open : is_part 40 ≡ false
unfolding is_part is_white
is_part-open = refl

pub is_part-close : is_part 41 ≡ false
unfolding is_part is_white
is_part-close = refl

-- the letter a
pub is_part-a : is_part 97 ≡ true
unfolding is_part is_white
is_part-a = refl

-- white space is none of the marks
pub white_not_mark : (mark c : ℕ) → is_white mark ≡ false → is_white c ≡ true → eqb c mark ≡ false
white_not_mark mark c not_white white =
    none_true (eqb c mark) (λ same. let e : c ≡ mark = eqb-true c mark same
    in let w : is_white mark ≡ true = subst (λ x. is_white x ≡ true) e white in cc)

pub digit_not_white : (c : ℕ) → 48 ≤ c → c ≤ 57 → is_white c ≡ false
unfolding is_white
digit_not_white c low high = grind (arith, nat_tests)

pub goes_on-true : (n c : ℕ) → 48 ≤ c → c ≤ 57 → 1 ≤ n * 10 + (c - 48) → n * 10 + (c - 48) ≤ 128 → goes_on n c ≡ true
unfolding goes_on
goes_on-true n c low high some few = grind (arith, nat_tests)

pub record GoesOn (n c : ℕ) : Type 0 where
  pub low : 48 ≤ c
  pub high : c ≤ 57
  pub some : 1 ≤ n * 10 + (c - 48)
  pub few : n * 10 + (c - 48) ≤ 128

pub goes_on-parts : (n c : ℕ) → goes_on n c ≡ true → GoesOn n c
unfolding goes_on
goes_on-parts n c e = record {
  low = grind (arith, nat_tests);
  high = grind (arith, nat_tests);
  some = grind (arith, nat_tests);
  few = grind (arith, nat_tests);
}

-- only a digit goes on
pub goes_on-bracket : (n : ℕ) → goes_on n 41 ≡ false
unfolding goes_on
goes_on-bracket n = refl

pub goes_on-white : (n c : ℕ) → is_white c ≡ true → goes_on n c ≡ false
goes_on-white n c white =
    none_true (goes_on n c) (λ e. let p = goes_on-parts n c e in let q = digit_not_white c p.low p.high in cc)

pub goes_on-outside : (n c : ℕ) → (c < 48) ⊎ ((48 ≤ c) × (57 < c)) → goes_on n c ≡ false
goes_on-outside n c (inl low) =
    none_true (goes_on n c) (λ e. let p = goes_on-parts n c e in omega (arith, p.low))
goes_on-outside n c (inr high) =
    none_true (goes_on n c) (λ e. let p = goes_on-parts n c e in omega (arith, p.high, high.1))

pub goes_on-too_far : (n c m : ℕ) → m ≡ n → (m * 10 + (c - 48) < 1)
    ⊎ ((1 ≤ m * 10 + (c - 48)) × (128 < m * 10 + (c - 48))) → goes_on n c ≡ false
goes_on-too_far n c m same (inl few) =
    none_true (goes_on n c) (λ e. let p = goes_on-parts n c e in let q = p.some in omega arith)
goes_on-too_far n c m same (inr far) =
    none_true (goes_on n c) (λ e. let p = goes_on-parts n c e in let q = p.few in let r = far.1 in omega arith)
