-- Beside specs/Ends: words of private contracts and of proofs.
use Rattle.std.specs.Prelude.{ℕ, ◌+◌, ◌-◌, ◌<◌, Bool, true, false, List, length}
use Rattle.std.specs.Global.{Vec}
use Rattle.std.specs.Vec.{vec_items}
use Rattle.std.specs.List.{HoldsAt}

-- the first item of this chunk passes, unless it is the first chunk, and that of the next one does not
pub record IsLastBegun {T : Type 0} (returns : T → Bool → Type 0) (chunks : List (Vec T)) (at : ℕ) : Type 0 where
  pub within : at < length chunks
  pub here : 0 < at → HoldsAt (λ c. HoldsAt (λ x. returns x true) (vec_items c) 0) chunks at
  pub next : at + 1 < length chunks → HoldsAt (λ c. HoldsAt (λ x. returns x false) (vec_items c) 0) chunks (at + 1)
