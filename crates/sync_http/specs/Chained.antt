-- Steps of reading, one after the other: there is an answer where each step has one.
use Rattle.std.specs.Prelude.{Bool, if◌then◌else◌, Option, Some, None}

infixl 10 ◌>>=◌
abbrev pub ◌>>=◌ : {A B : Type 0} → Option A → (A → Option B) → Option B
None >>= f = None
(Some x) >>= f = f x

-- the value, if the test is true
abbrev pub only_if : {A : Type 0} → Bool → A → Option A
only_if test x = if test then Some x else None
