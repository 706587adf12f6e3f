-- What is known of a test that is two tests, or that is not the other answer.
use Rattle.std.proofs.Common.{◌≡◌, Bool, true, false, true≢false, refl, sym, ◌∙◌}
use Rattle.std.specs.Prelude.{not, ◌&&◌}
use Rattle.std.proofs.lemmas.Bool.{and_from, and_parts}

pub both : (a b : Bool) → a ≡ true → b ≡ true → (a && b) ≡ true
both = and_from

pub first : (a b : Bool) → (a && b) ≡ true → a ≡ true
first a b h = (and_parts a b h).0

pub second : (a b : Bool) → (a && b) ≡ true → b ≡ true
second a b h = (and_parts a b h).1

-- a test has one answer
pub not_both : (b : Bool) → b ≡ true → b ≡ false → ⊥
not_both b is isnt = true≢false (sym is ∙ isnt)

pub none_true : (b : Bool) → (b ≡ true → ⊥) → b ≡ false
none_true true h = absurd (h refl)
none_true false h = refl

pub some_true : (b : Bool) → (b ≡ false → ⊥) → b ≡ true
some_true true h = refl
some_true false h = absurd (h refl)

pub not_true : (b : Bool) → not b ≡ true → b ≡ false
not_true true h = absurd (cc h)
not_true false h = refl
