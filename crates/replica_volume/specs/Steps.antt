-- The steps that the bodies of an image say, one after the other.
use Rattle.std.specs.Prelude.{ℕ, ◌+◌, ◌==◌, if◌then◌else◌, List, [], ◌∷◌, ◌++◌, length, Result, Ok, Err}
use Rattle.conflicts.specs.State.{History, Step, State, Text, state_of}
use Rattle.journal.specs.Image.{Head, entry}
use Rattle.journal.specs.declared.layout.TheConstants.{FIRST_FORMAT}
use Rattle.record_codec.specs.Bodies.{Recorded, step_in, first_step_in}

-- steps in their order, and the uids that have numbers behind them
pub record Chronicle : Type 0 where
  pub steps : History
  pub uids : List Text

-- in format 1 no uid gets a number
abbrev pub unnumbered : Result Step ℕ → Result Recorded ℕ
unnumbered (Ok x) = Ok (record { step = x; added = [] })
unnumbered (Err place) = Err place

-- what one body says in the format of its image, where these uids have numbers; or its first place that has no reading
abbrev pub body_in : ℕ → List Text → List ℕ → Result Recorded ℕ
body_in format us body = if format == FIRST_FORMAT then unnumbered (first_step_in body) else step_in us body

-- a step before those of the later entries
abbrev pub with_step : List ℕ → Step → Result Chronicle ℕ → Result Chronicle ℕ
with_step body x (Ok later) = Ok (record { steps = x ∷ later.steps; uids = later.uids })
with_step body x (Err place) = Err (length (entry body) + place)

-- a body stands five bytes behind the place of its entry
abbrev pub after_body : List ℕ → Result Recorded ℕ → (Recorded → Result Chronicle ℕ) → Result Chronicle ℕ
after_body body (Ok said) later = with_step body said.step (later said)
after_body body (Err place) later = Err (5 + place)

-- What the bodies of entries say, where these uids have numbers before them; or the place of the first field that has
-- no reading, counted from the first entry.
abbrev pub steps_in : ℕ → List Text → List (List ℕ) → Result Chronicle ℕ
steps_in format us [] = Ok (record { steps = []; uids = us })
steps_in format us (body ∷ bodies) =
    after_body body (body_in format us body) (λ said. steps_in format (us ++ said.added) bodies)

-- the uid of the header has the number 0
abbrev pub steps_of : ℕ → Head → List (List ℕ) → Result Chronicle ℕ
steps_of format head bodies = steps_in format (head.uid ∷ []) bodies

-- the state of these steps, at the replica of this header
abbrev pub state_at : Head → History → State
state_at head h = state_of head.name head.uid h
