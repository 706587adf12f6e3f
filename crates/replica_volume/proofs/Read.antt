-- What bodies say that stand behind one another.
use Rattle.std.proofs.Common.{◌≡◌, ℕ, ◌+◌, List, [], ◌∷◌, ◌++◌, length, Result, Ok, Err, refl, sym, ◌∙◌, ap, arith}
use Rattle.std.proofs.Common.{length-append}
use Rattle.std.proofs.lemmas.List.{append_assoc}
use Rattle.conflicts.specs.State.{Step, Text}
use Rattle.journal.specs.Image.{entry, entries, header_bytes, up_to_gate}
use Rattle.journal.specs.Stored.{StoredImage}
use Rattle.journal.specs.Passing.{HasPassed}
use Rattle.record_codec.specs.Bodies.{Recorded}
use Rattle.replica_volume.specs.inner.Replaying.{IsBadAt}
use Rattle.replica_volume.specs.Steps.{Chronicle, after_body, body_in, steps_in, steps_of, with_step}

-- steps and so many bytes before what later entries say
abbrev pub behind : List Step → ℕ → Result Chronicle ℕ → Result Chronicle ℕ
behind steps size (Ok later) = Ok (record { steps = steps ++ later.steps; uids = later.uids })
behind steps size (Err place) = Err (size + place)

nothing_before : (r : Result Chronicle ℕ) → r ≡ behind [] 0 r
nothing_before (Ok later) = refl
nothing_before (Err place) = ap Err (omega arith)

one_before : (body : List ℕ) (x : Step) (xs : List Step) (n : ℕ) (r : Result Chronicle ℕ)
    → with_step body x (behind xs n r) ≡ behind (x ∷ xs) (length (entry body) + n) r
one_before body x xs n (Ok later) = refl
one_before body x xs n (Err place) = ap Err (omega arith)

said_ok : (body : List ℕ) (said : Result Recorded ℕ) (k : Recorded → Result Chronicle ℕ) (c : Chronicle)
    → after_body body said k ≡ Ok c → (s : Recorded) × (said ≡ Ok s)
said_ok body (Ok s) k c e = (s, refl)
said_ok body (Err place) k c e = absurd (cc e)

later_ok : (body : List ℕ) (x : Step) (r : Result Chronicle ℕ) (c : Chronicle) → with_step body x r ≡ Ok c
    → (d : Chronicle) × (r ≡ Ok d) × (c ≡ record { steps = x ∷ d.steps; uids = d.uids })
later_ok body x (Ok d) c e = (d, refl, cc e)
later_ok body x (Err place) c e = absurd (cc e)

pub steps_append : (format : ℕ) (us : List Text) (bodies later : List (List ℕ)) (c : Chronicle)
    → steps_in format us bodies ≡ Ok c
    → steps_in format us (bodies ++ later) ≡ behind c.steps (length (entries bodies)) (steps_in format c.uids later)
steps_append format us [] later c e =
    let is : record { steps = []; uids = us } ≡ c = cc e in
    nothing_before (steps_in format us later)
    ∙ ap (λ (d : Chronicle). behind d.steps 0 (steps_in format d.uids later)) is
steps_append format us (body ∷ bodies) later c e =
    let said = said_ok body (body_in format us body) (λ s. steps_in format (us ++ s.added) bodies) c e in
    let s = said.0 in
    let rest = later_ok body s.step (steps_in format (us ++ s.added) bodies) c
    (sym (ap (λ (r : Result Recorded ℕ). after_body body r (λ s. steps_in format (us ++ s.added) bodies)) said.1) ∙ e)
    in
    let d = rest.0 in
    ap (λ (r : Result Recorded ℕ). after_body body r (λ s. steps_in format (us ++ s.added) (bodies ++ later))) said.1
    ∙ ap (with_step body s.step) (steps_append format (us ++ s.added) bodies later d rest.1)
    ∙ one_before body s.step d.steps (length (entries bodies)) (steps_in format d.uids later)
    ∙ ap (λ (n : ℕ). behind (s.step ∷ d.steps) n (steps_in format d.uids later))
    (sym (length-append (entry body) (entries bodies)))
    ∙ ap (λ (x : Chronicle). behind x.steps (length (entries (body ∷ bodies))) (steps_in format x.uids later))
    (sym rest.2)

-- one more body that says a step
pub one_said : (format : ℕ) (us : List Text) (bodies : List (List ℕ)) (body : List ℕ) (c : Chronicle) (s : Recorded)
    → steps_in format us bodies ≡ Ok c
    → body_in format c.uids body ≡ Ok s
    → steps_in format us (bodies ++ body ∷ [])
    ≡ Ok (record { steps = c.steps ++ s.step ∷ []; uids = c.uids ++ s.added })
one_said format us bodies body c s e said =
    steps_append format us bodies (body ∷ []) c e
    ∙ ap (λ (r : Result Recorded ℕ). behind c.steps (length (entries bodies))
    (after_body body r (λ x. steps_in format (c.uids ++ x.added) []))) said

-- or one that is bad
pub one_bad : (format : ℕ) (us : List Text) (bodies rest : List (List ℕ)) (body : List ℕ) (c : Chronicle) (place : ℕ)
    → steps_in format us bodies ≡ Ok c
    → body_in format c.uids body ≡ Err place
    → steps_in format us (bodies ++ body ∷ rest) ≡ Err (length (entries bodies) + (5 + place))
one_bad format us bodies rest body c place e said =
    steps_append format us bodies (body ∷ rest) c e
    ∙ ap (λ (r : Result Recorded ℕ). behind c.steps (length (entries bodies))
    (after_body body r (λ x. steps_in format (c.uids ++ x.added) rest))) said

-- the place of the damage in the file
pub bad_in : (image : StoredImage) (bodies : List (List ℕ)) (body : List ℕ) (place next at here : ℕ) (c : Chronicle)
    → length (up_to_gate image.format image.header bodies) ≡ place → HasPassed image (bodies ++ body ∷ []) next
    → steps_of image.format image.header bodies ≡ Ok c → body_in image.format c.uids body ≡ Err at
    → here ≡ place + 5 + at
    → IsBadAt image here
bad_in image bodies body place next at here c there passed e said n = record {
  at = length (entries bodies) + (5 + at);
  bad = ap (steps_of image.format image.header) (passed.split ∙ append_assoc bodies (body ∷ []) passed.rest)
      ∙ one_bad image.format (image.header.uid ∷ []) bodies passed.rest body c at e said;
  there = omega (arith, n, there, length-append (header_bytes image.format image.header) (entries bodies));
}
