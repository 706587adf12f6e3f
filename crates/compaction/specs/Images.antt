-- The image of a history: the bodies of its steps, one after the other.
use Rattle.std.specs.Prelude.{◌≡◌, ℕ, List, [], ◌∷◌, ◌++◌, Ok}
use Rattle.conflicts.specs.State.{Text, Step, History}
use Rattle.journal.specs.Image.{AreBodies, Head, IsBody, image}
use Rattle.journal.specs.declared.layout.TheConstants.{SECOND_FORMAT}
use Rattle.record_codec.specs.Bodies.{body_of, added_of, step_in}

-- the bodies of the steps in format 2, where these uids have numbers before them
abbrev pub bodies_of : List Text → History → List (List ℕ)
bodies_of us [] = []
bodies_of us (x ∷ later) = body_of us x ∷ bodies_of (us ++ added_of us x) later

-- the uids that have numbers after them
abbrev pub uids_after : List Text → History → List Text
uids_after us [] = us
uids_after us (x ∷ later) = uids_after (us ++ added_of us x) later

-- the image as it is written; the uid of the header has the number 0
abbrev pub image_of : Head → History → List ℕ
image_of head h = image SECOND_FORMAT head (bodies_of (head.uid ∷ []) h)

-- each body is read as its step, where the uids have numbers that the bodies before it leave
abbrev pub ReadBack : List Text → History → Type 0
ReadBack us [] = Unit {0}
ReadBack us (x ∷ later) =
    (step_in us (body_of us x) ≡ Ok (record { step = x; added = added_of us x })) × ReadBack (us ++ added_of us x) later

-- what one step more adds to bodies, where these uids have numbers
pub record IsOneMore (us : List Text) (x : Step) (bodies more : List (List ℕ)) (numbered : List Text) : Type 0 where
  pub body : more ≡ bodies ++ body_of us x ∷ []
  pub uids : numbered ≡ us ++ added_of us x
  pub fits : IsBody (body_of us x)
  pub reads : step_in us (body_of us x) ≡ Ok (record { step = x; added = added_of us x })

-- the bodies of these steps, and the uids that have numbers after them, where only this one has a number before them
pub record AreSpelled (own : Text) (h : History) (bodies : List (List ℕ)) (uids : List Text) : Type 0 where
  pub bodies_are : bodies ≡ bodies_of (own ∷ []) h
  pub uids_are : uids ≡ uids_after (own ∷ []) h
  pub fit : AreBodies bodies
  pub reads : ReadBack (own ∷ []) h
