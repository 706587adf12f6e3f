-- Going through the bodies of an image, and making their steps.
use Rattle.std.proofs.Common.{◌≡◌, ℕ, ◌+◌, List, [], ◌∷◌, ◌++◌, Result, Ok, Err, sym, ◌∙◌, ap, subst}
use Rattle.conflicts.specs.State.{State, Text, after}
use Rattle.conflicts.proofs.States.{goes_on}
use Rattle.journal.specs.Stored.{StoredImage}
use Rattle.journal.specs.Passing.{HasPassed}
use Rattle.record_codec.specs.Bodies.{Recorded}
use Rattle.replica_volume.specs.Steps.{body_in, state_at}
use Rattle.record_codec.specs.declared.decoding.RecordFault.{RecordFault}
use Rattle.record_codec.specs.declared.decoding.RecordFault.TheVariants.{Bad, Memory}
use Rattle.replica_volume.specs.inner.Replaying.{AreMade, DecodesAt, IsOneMade, Leave, MakesAll, MakesOne, Replays}
use Rattle.replica_volume.specs.declared.replaying.Made.{Made}
use Rattle.replica_volume.proofs.Read.{bad_in, one_said}

-- no body yet
pub replayed_none : (image : StoredImage) (state : State) (uids : List Text) → state ≡ state_at image.header []
    → uids ≡ image.header.uid ∷ [] → Leave image [] state uids
replayed_none image state uids is numbered = record {
  history = [];
  says = ap (λ (us : List Text). Ok (record { steps = []; uids = us })) (sym numbered);
  leaves = is;
}

-- one body more
pub made_more : (image : StoredImage) (bodies : List (List ℕ)) (body : List ℕ) (old new : Made) (format : ℕ)
    → AreMade image bodies old → format ≡ image.format
    → IsOneMade (body_in format old.uids.uids body) old new → AreMade image (bodies ++ body ∷ []) new
made_more image bodies body old new format i same is = record {
  history = i.history ++ is.said.step ∷ [];
  says = one_said image.format (image.header.uid ∷ []) bodies body
      (record { steps = i.history; uids = old.uids.uids }) is.said i.says
      (ap (λ (n : ℕ). body_in n old.uids.uids body) (sym same) ∙ is.reads)
      ∙ ap (λ (us : List Text). Ok (record { steps = i.history ++ is.said.step ∷ []; uids = us })) (sym is.uids);
  leaves = is.state ∙ ap (λ (s : State). after s is.said.step) i.leaves
      ∙ sym (goes_on.step image.header.name image.header.uid i.history is.said.step);
}

-- all bodies
pub made_all : (image : StoredImage) (bodies : List (List ℕ)) (made : Made)
    → image.bodies ≡ bodies → AreMade image bodies made → AreMade image image.bodies made
made_all image bodies made e is = subst (λ (l : List (List ℕ)). AreMade image l made) (sym e) is

-- the next body has no reading, or memory ran out
pub made_err : (image : StoredImage) (bodies : List (List ℕ)) (body : List ℕ) (old new : Made)
    (place next start format : ℕ) (why : RecordFault)
    → HasPassed image bodies place → HasPassed image (bodies ++ body ∷ []) next → AreMade image bodies old
    → format ≡ image.format → start ≡ place + 5
    → MakesOne start (body_in format old.uids.uids body) old new (Err why) → MakesAll image new (Err why)
made_err image bodies body old new place next start format (Bad here) before behind i f at said =
    bad_in image bodies body place next said.0 here (record { steps = i.history; uids = old.uids.uids })
    before.there behind i.says
    (ap (λ (n : ℕ). body_in n old.uids.uids body) (sym f) ∙ said.1) (said.2 ∙ ap (λ (m : ℕ). m + said.0) at)
made_err image bodies body old new place next start format Memory before behind i f at said = tt

-- one body has no reading, or memory ran out
pub one_err : (start : ℕ) (read : Result Recorded ℕ) (old new : Made) (why : RecordFault)
    → DecodesAt start read (Err why) → MakesOne start read old new (Err why)
one_err start read old new (Bad here) said = said
one_err start read old new Memory said = tt

-- what all bodies leave is what the image says
pub all_err : (image : StoredImage) (made : Made) (why : RecordFault) → MakesAll image made (Err why)
    → Replays image (Err why)
all_err image made (Bad place) is = is
all_err image made Memory is = tt
