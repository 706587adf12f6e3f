-- What a read takes from the front of what is left.
use Rattle.std.proofs.Common.{◌≡◌, ℕ, ◌+◌, List, [], ◌++◌, take, drop, sym, ap, ◌∙◌, add-zero}
use Rattle.std.proofs.lemmas.Simd.{chunk-drop}

-- what was given, and what is left behind it, is what was there
pub given_and_left : (at n : ℕ) (bytes given : List ℕ) → take n given ≡ take n (drop at bytes)
    → drop at bytes ≡ take n given ++ drop (at + n) bytes
given_and_left at n bytes given same = chunk-drop at n bytes
    ∙ ap (λ (front : List ℕ). front ++ drop (at + n) bytes) (sym same)

-- where nothing was given of nothing, nothing is left
pub nothing_left : (at n : ℕ) (bytes : List ℕ) → n ≡ 0 → drop at bytes ≡ [] → drop (at + n) bytes ≡ []
nothing_left at n bytes none empty = rw (none, add-zero) empty
