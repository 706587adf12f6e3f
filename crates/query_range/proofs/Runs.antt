-- A filter that passes one run of a list: what it gives is taken from the run's first place, while a test passes.
use Rattle.std.proofs.Common.{◌≡◌, ℕ, ◌<◌, ◌≤◌, Bool, true, false, cond, List, [], ◌∷◌, length, get_or, drop, zero, suc}
use Rattle.std.proofs.Common.{refl, sym, ◌∙◌, ap, arith}
use Rattle.std.proofs.lemmas.List.Sums.{take_while-cons}
use Rattle.std.specs.List.{filter, take_while}

module _ {X : Type 0} (f : X → Bool) where
  none_pass : (xs : List X) → ((k : ℕ) (d : X) → k < length xs → f (get_or xs k d) ≡ false) → filter f xs ≡ []
  none_pass [] none = refl
  none_pass (x ∷ xs) none =
      ap (λ (b : Bool). cond b (x ∷ filter f xs) (filter f xs)) (none 0 x (omega arith))
      ∙ none_pass xs (λ k d lt. none (suc k) d (omega arith))

  module _ (g : X → Bool) where
    -- the test passes from the first item on, up to a place, and no item behind it
    run_at_start : (xs : List X) → ((k : ℕ) (d : X) → k < length xs → f (get_or xs k d) ≡ g (get_or xs k d))
        → ((i k : ℕ) (d : X) → i < k → k < length xs → g (get_or xs k d) ≡ true → g (get_or xs i d) ≡ true)
        → filter f xs ≡ take_while g xs
    run_at_start [] agree closed = refl
    run_at_start (x ∷ xs) agree closed =
        elim (g x) as (λ (b : Bool). g x ≡ b → filter f (x ∷ xs) ≡ cond b (x ∷ take_while g xs) []) [
          | true ↦ λ is.
              ap (λ (b : Bool). cond b (x ∷ filter f xs) (filter f xs)) (agree 0 x (omega arith) ∙ is)
              ∙ ap (λ (l : List X). x ∷ l)
              (run_at_start xs (λ k d lt. agree (suc k) d (omega arith))
              (λ i k d lt le. closed (suc i) (suc k) d (omega arith) (omega arith)))
          | false ↦ λ is. none_pass (x ∷ xs) (λ k d lt. agree k d lt ∙ fails is k d lt)
        ] refl
        ∙ sym (take_while-cons g x xs)
      where
        refuted : (b : Bool) → (b ≡ true → g x ≡ true) → g x ≡ false → b ≡ false
        refuted true h is = absurd (cc (h refl, is))
        refuted false h is = refl

        fails : g x ≡ false → (k : ℕ) (d : X) → k < length (x ∷ xs) → g (get_or (x ∷ xs) k d) ≡ false
        fails is zero d lt = is
        fails is (suc k) d lt = refuted (g (get_or xs k d)) (closed 0 (suc k) d (omega arith) lt) is

    -- no item before the place passes; from there on the filter asks what the test asks, and what comes before an item
    -- that passes it does so too
    pub run : (xs : List X) (n : ℕ) → n ≤ length xs
        → ((k : ℕ) (d : X) → k < n → f (get_or xs k d) ≡ false)
        → ((k : ℕ) (d : X) → n ≤ k → k < length xs → f (get_or xs k d) ≡ g (get_or xs k d))
        → ((i k : ℕ) (d : X) → n ≤ i → i < k → k < length xs → g (get_or xs k d) ≡ true → g (get_or xs i d) ≡ true)
        → filter f xs ≡ take_while g (drop n xs)
    run xs zero le before agree closed = run_at_start xs (λ k d lt. agree k d (omega arith) lt)
        (λ i k d lt in_xs. closed i k d (omega arith) lt in_xs)
    run [] (suc n) le before agree closed = absurd (omega arith)
    run (x ∷ xs) (suc n) le before agree closed =
        ap (λ (b : Bool). cond b (x ∷ filter f xs) (filter f xs)) (before 0 x (omega arith))
        ∙ run xs n (omega arith)
        (λ k d lt. before (suc k) d (omega arith))
        (λ k d low lt. agree (suc k) d (omega arith) (omega arith))
        (λ i k d low lt in_xs. closed (suc i) (suc k) d (omega arith) (omega arith) (omega arith))
