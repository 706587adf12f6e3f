-- Requests whose bytes end before they do, and servings that are broken off.
use Rattle.std.specs.Prelude.{◌≡◌, ◌≢◌, ℕ, Bool, true, false, List, []}
use Rattle.conflicts.specs.State.{State, Step}
use Rattle.sync_stream.specs.Came.{Ending, Whole, Faulty, Cut}
use Rattle.sync_stream.specs.Lines.{GoOn}
use Rattle.sync_stream.specs.Messages.{Purpose, AskInfo, Tell, Exchange, Request, EndsEarly, Refused, Asks, Says}
use Rattle.sync_stream.specs.Messages.{Unread, Short, Over, ReadsRequest}
use Rattle.sync_stream.specs.Replies.{Reply, reply_text}
use Rattle.sync_stream.specs.Serving.{Serves, Stop, serve}

abbrev pub is_cut : Ending → Bool
is_cut Whole = false
is_cut (Faulty fault) = false
is_cut (Cut n) = true

abbrev pub is_short : Purpose → Bool
is_short AskInfo = false
is_short (Tell (Says at)) = false
is_short (Tell Unread) = false
is_short (Tell Short) = true
is_short (Tell Over) = false
is_short (Exchange stream) = is_cut stream.ending

-- the bytes end within the head or the body. Whoever serves such a request has read all that came
abbrev pub ends_early : Request → Bool
ends_early EndsEarly = true
ends_early (Refused fault) = false
ends_early (Asks db source purpose) = is_short purpose

-- a serving that is broken off, without a reply, made some first of the steps
abbrev pub BreaksOff : State → ℕ → Request → List Step → Type 0
BreaksOff s seed request made = GoOn made (serve s seed request).steps

-- one that is broken off with no reply or a part of one: the bytes that were read say a request, and there is a reply
-- to it of which a front was written. All steps are made before its first byte is
pub record BreaksOffBytes (may_stop : Stop → Type 0) (s : State) (seed : ℕ) (read written : List ℕ)
    (made : List Step) : Type 0 where
  pub request : Request
  pub reply : Reply
  pub steps : List Step
  pub n : ℕ
  pub reads : ReadsRequest read request
  pub serves : Serves may_stop s seed request reply steps n
  pub first : GoOn made steps
  pub all : written ≢ [] → made ≡ steps
  pub writes : GoOn written (reply_text reply)
