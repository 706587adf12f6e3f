-- What serving, as it is defined, makes of the state of a peer.
use Rattle.std.specs.Prelude.{◌≡◌, ℕ, true, List}
use Rattle.link.specs.Streams.{IsFront}
use Rattle.conflicts.specs.State.{State, Step, after_all}
use Rattle.sync_stream.specs.Early.{BreaksOff, ends_early}
use Rattle.sync_stream.specs.Messages.{Request, ReadsRequest}
use Rattle.sync_stream.specs.Replies.{BadRequest, Refuses}
use Rattle.sync_stream.specs.Serving.{ServesBytes, Stop}

-- a peer that makes its ids by this seed reads the bytes that were sent, or a front of them that it answers already,
-- gives this reply, makes its steps and applies so many documents, unless it is stopped in a way that may come. It
-- refuses bytes because they end early only if it has read all of them
pub record ServesAsDefined (may_stop : Stop → Type 0) (seed : ℕ) (before : State) (sent reply : List ℕ)
    (after : State) : Type 0 where
  pub read : List ℕ
  pub made : List Step
  pub applied : ℕ
  pub front : IsFront read sent
  pub serves : ServesBytes may_stop before seed read reply made applied
  pub whole : ends_early serves.request ≡ true → serves.reply ≡ Refuses BadRequest → read ≡ sent
  pub stepped : after ≡ after_all before made

-- it stops within the bytes that were sent, and has made some first ones of the steps that a front of them asks for
pub record StopsAsDefined (seed : ℕ) (before : State) (sent : List ℕ) (after : State) : Type 0 where
  pub read : List ℕ
  pub request : Request
  pub made : List Step
  pub front : IsFront read sent
  pub reads : ReadsRequest read request
  pub breaks : BreaksOff before seed request made
  pub stepped : after ≡ after_all before made
