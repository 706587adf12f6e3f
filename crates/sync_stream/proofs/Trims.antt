-- Blanks at both ends of bytes.
use Rattle.std.proofs.Common.{◌≡◌, ℕ, ◌+◌, ◌-◌, ◌<◌, ◌≤◌, true, false, List, [], ◌∷◌, ◌++◌, length, get_or, take, drop}
use Rattle.std.proofs.Common.{refl, sym, ap, ◌∙◌, subst, arith}
use Rattle.std.proofs.lemmas.Bool.{cond-true, cond-false}
use Rattle.std.proofs.lemmas.List.{take_more, drop_more, drop_all}
use Rattle.sync_stream.specs.Says.{is_blank, trim_start, trim_end, before_trimmed}

trim_end-blank : (xs : List ℕ) (b : ℕ) → is_blank b ≡ true → trim_end (xs ++ b ∷ []) ≡ trim_end xs
trim_end-blank [] b blank = cond-true _ _ _ blank
trim_end-blank (x ∷ xs) b blank = ap (before_trimmed x) (trim_end-blank xs b blank)

before-snoc : (x : ℕ) (xs : List ℕ) (b : ℕ) → before_trimmed x (xs ++ b ∷ []) ≡ x ∷ (xs ++ b ∷ [])
before-snoc x [] b = refl
before-snoc x (y ∷ ys) b = refl

pub trim_end-other : (xs : List ℕ) (b : ℕ) → is_blank b ≡ false → trim_end (xs ++ b ∷ []) ≡ xs ++ b ∷ []
trim_end-other [] b other = cond-false _ _ _ other
trim_end-other (x ∷ xs) b other = ap (before_trimmed x) (trim_end-other xs b other) ∙ before-snoc x xs b

pub trim_step : (bytes : List ℕ) (n : ℕ) → 0 < n → n ≤ length bytes → is_blank (get_or bytes (n - 1) 0) ≡ true
    → trim_end (take (n - 1) bytes) ≡ trim_end (take n bytes)
trim_step bytes n pos fits blank =
    let m : n - 1 + 1 ≡ n = omega arith in
    subst (λ k. trim_end (take (n - 1) bytes) ≡ trim_end (take k bytes)) m
    (sym (ap trim_end (take_more bytes (n - 1) 0 (omega arith))
    ∙ trim_end-blank (take (n - 1) bytes) (get_or bytes (n - 1) 0) blank))

pub trim_stop : (bytes : List ℕ) (n : ℕ) → 0 < n → n ≤ length bytes → is_blank (get_or bytes (n - 1) 0) ≡ false
    → take n bytes ≡ trim_end (take n bytes)
trim_stop bytes n pos fits other =
    let m : n - 1 + 1 ≡ n = omega arith in
    let e = take_more bytes (n - 1) 0 (omega arith) in
    subst (λ k. take k bytes ≡ trim_end (take k bytes)) m
    (e ∙ sym (ap trim_end e ∙ trim_end-other (take (n - 1) bytes) (get_or bytes (n - 1) 0) other))

pub trim_none : (bytes : List ℕ) (n : ℕ) → n ≡ 0 → take n bytes ≡ trim_end (take n bytes)
trim_none bytes n zero = subst (λ k. take k bytes ≡ trim_end (take k bytes)) (sym zero) refl

pub start_step : (bytes : List ℕ) (n : ℕ) → n < length bytes → is_blank (get_or bytes n 0) ≡ true
    → trim_start (drop (n + 1) bytes) ≡ trim_start (drop n bytes)
start_step bytes n inside blank = sym (ap trim_start (drop_more bytes n 0 inside) ∙ cond-true _ _ _ blank)

pub start_stop : (bytes : List ℕ) (n : ℕ) → n < length bytes → is_blank (get_or bytes n 0) ≡ false
    → drop n bytes ≡ trim_start (drop n bytes)
start_stop bytes n inside other = let e = drop_more bytes n 0 inside in e
    ∙ sym (ap trim_start e ∙ cond-false _ _ _ other)

pub start_none : (bytes : List ℕ) (n : ℕ) → length bytes ≤ n → drop n bytes ≡ trim_start (drop n bytes)
start_none bytes n past = let e = drop_all n bytes past in e ∙ sym (ap trim_start e)
