-- Where a search for the first item that does not pass a test ended; `returns x b` says that the test answers b of x.
use Rattle.std.specs.Prelude.{ℕ, ◌-◌, ◌<◌, Bool, true, false, List, length}
use Rattle.std.specs.List.{HoldsAt}

-- the item before the place, if there is one, passes
abbrev pub PassesBefore : {T : Type 0} → (T → Bool → Type 0) → List T → ℕ → Type 0
PassesBefore returns items place = 0 < place → HoldsAt (λ x. returns x true) items (place - 1)

-- the item at the place, if there is one, does not pass
abbrev pub FailsAt : {T : Type 0} → (T → Bool → Type 0) → List T → ℕ → Type 0
FailsAt returns items place = place < length items → HoldsAt (λ x. returns x false) items place
