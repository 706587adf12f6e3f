-- What holds of all bodies.
use Rattle.std.specs.Prelude.{◌≡◌, ℕ, ◌<◌, ◌≤◌, ◌^◌, List, ◌++◌, length, slice_index, Ok}
use Rattle.conflicts.specs.State.{Step}
use Rattle.record_fields.specs.Table.{Text, AreNumbered}
use Rattle.record_codec.specs.Bodies.{Recorded, body_of, added_of, step_in, first_body_of, first_step_in}
use Rattle.record_codec.specs.Steps.{IsStep}

abbrev pub AreBytes : List ℕ → Type 0
AreBytes s = (i : ℕ) → slice_index s i < 256

-- there are numbers enough for the uids that the step adds
abbrev pub HasNumbers : List Text → Step → Type 0
HasNumbers us x = length (us ++ added_of us x) ≤ 2 ^ 32

-- a body says the step, where these uids have numbers
pub record Says (us : List Text) (body : List ℕ) (r : Recorded) : Type 0 where
  pub step : IsStep r.step
  pub spelled : body ≡ body_of us r.step
  pub added : r.added ≡ added_of us r.step
  pub numbered : AreNumbered (us ++ r.added)

-- where the same uids have numbers, each step has one body, and each body says one step
pub record BodiesReadBack : Type 0 where
  -- the body of a step is read as that step
  pub back : (us : List Text) (x : Step) → IsStep x → HasNumbers us x
      → step_in us (body_of us x) ≡ Ok (record { step = x; added = added_of us x })
  -- what is read as a step is its body
  pub only : (us : List Text) (body : List ℕ) (r : Recorded) → AreNumbered us → AreBytes body
      → step_in us body ≡ Ok r → Says us body r
  -- two steps have two bodies
  pub apart : (us : List Text) (x y : Step) → IsStep x → IsStep y → HasNumbers us x → HasNumbers us y
      → body_of us x ≡ body_of us y → x ≡ y

-- the same of format 1, in which no uid has a number
pub record FirstBodiesReadBack : Type 0 where
  pub back : (x : Step) → IsStep x → first_step_in (first_body_of x) ≡ Ok x
  pub only : (body : List ℕ) (x : Step) → AreBytes body → first_step_in body ≡ Ok x
      → IsStep x × (body ≡ first_body_of x)
  pub apart : (x y : Step) → IsStep x → IsStep y → first_body_of x ≡ first_body_of y → x ≡ y
