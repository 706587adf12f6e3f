-- A piece that is written bit by bit.
use Rattle.std.proofs.Common.{◌≡◌, ◌⊎◌, ℕ, ◌+◌, ◌/◌, List, ◌++◌, length, take, drop, append_assoc, sym, ◌∙◌, inl, inr}
use Rattle.std.proofs.Common.{Some, None, Option}
use Rattle.std.proofs.lemmas.List.{append-nil}
use Rattle.std.proofs.Math.Seq.{take-add}
use Rattle.std.specs.Io.KnownBytes.{Appends}

pub appends-nothing : (held : Option (List ℕ)) (piece : List ℕ) → Appends held held (take 0 piece)
appends-nothing None piece = tt
appends-nothing (Some xs) piece = sym (append-nil xs)

-- the first bytes of a piece and then the next are the first of both
pub appends-next : (first mid last : Option (List ℕ)) (piece : List ℕ) (done n : ℕ)
    → Appends first mid (take done piece) → Appends mid last (take n (drop done piece))
    → Appends first last (take (done + n) piece)
appends-next None mid last piece done n a b = tt
appends-next (Some xs) None last piece done n a b = absurd a
appends-next (Some xs) (Some ys) None piece done n a b = absurd b
appends-next (Some xs) (Some ys) (Some zs) piece done n a b =
    rw (b, a, take-add done n piece) (append_assoc xs (take done piece) (take n (drop done piece)))

-- half of a piece, or nothing of it, is a front of it
pub half-front : (old new piece : List ℕ) → (new ≡ old ++ take (length piece / 2) piece) ⊎ (new ≡ old) → (k : ℕ)
    × (new ≡ old ++ take k piece)
half-front old new piece (inl half) = (length piece / 2, half)
half-front old new piece (inr same) = (0, same ∙ sym (append-nil old))
