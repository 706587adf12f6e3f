-- A worked world: a quiet session.
use Rattle.std.specs.Prelude.{◌≡◌, ℕ, List, [], ◌∷◌, Some}
use Rattle.sync_world.specs.Worked.{a, b, content, d, first}
use Rattle.sync_world.specs.World.{World, WorldStep, Ask, Reach, Apply, Reply, Send, Settle, Finish, after, after_all}
use Rattle.world_laws.specs.Quiet.{Quiet, reads}

-- a, which has a document, begins a session with b, which has nothing
abbrev begun : World
begun = after first (Ask a b)

abbrev session : ℕ → List WorldStep
session seed =
    Reach b 0 seed ∷ Reply b ∷ Send a ∷ Reach b 1 seed ∷ Apply b ∷ Reply b ∷ Settle a ∷ Finish a ∷ []

pub record QuietAsWorked : Type 0 where
  pub quiet : (seed : ℕ) → Quiet begun a b (session seed)
  pub source : (seed : ℕ) → reads (after_all begun (session seed)) a d ≡ Some content
  pub target : (seed : ℕ) → reads (after_all begun (session seed)) b d ≡ Some content
