-- Pieces that were added one after the other.
use Rattle.std.proofs.Common.{◌≡◌, ℕ, List, [], ◌++◌, refl, sym, ◌∙◌, ap, append_assoc, append-nil}

pub two_fields : (old new a b : List ℕ) → new ≡ old ++ a ++ b → new ≡ old ++ (a ++ (b ++ []))
two_fields old new a b e = e ∙ append_assoc old a b ∙ ap (λ (t : List ℕ). old ++ (a ++ t)) (sym (append-nil b))

-- a start, three fields and an end
pub three_fields : (start one two three four a b k z : List ℕ) → one ≡ start → two ≡ one ++ a ++ b → three ≡ two ++ k
    → four ≡ three ++ z →
    four ≡ start ++ (a ++ (b ++ (k ++ [])) ++ z)
three_fields start one two three four a b k z p q r s =
    s ∙ ap (λ (t : List ℕ). t ++ z) (r ∙ ap (λ (t : List ℕ). t ++ k) (q ∙ ap (λ (t : List ℕ). t ++ a ++ b) p))
    ∙ simp (append_assoc, append-nil) refl
