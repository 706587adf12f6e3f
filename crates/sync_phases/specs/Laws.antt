-- What holds of all sessions.
use Rattle.std.specs.Prelude.{ℕ, List, ◌++◌, Option}
use Rattle.u1_base.specs.Places.{Place}
use Rattle.conflicts.specs.State.{State}
use Rattle.sync_http.specs.declared.address.Address.{Address}
use Rattle.sync_stream.specs.Came.{Ending}
use Rattle.sync_stream.specs.Laws.{ReadsBack}
use Rattle.sync_stream.specs.Lines.{GoOn}
use Rattle.sync_stream.specs.Messages.{Asks, ReadsReply, SaysInfo, SaysKept, SaysReturned}
use Rattle.sync_stream.specs.Replies.{Reply, Tells, Keeps, Returns, Refuses}
use Rattle.sync_stream.specs.Requests.{Question, ForInfo, ToKeep, ToExchange, purpose_of}
use Rattle.sync_stream.specs.Serving.{serve}
use Rattle.sync_stream.specs.declared.line.SyncDoc.{SyncDoc}
use Rattle.sync_phases.specs.Peers.{info_said, kept_said, returned_said}
use Rattle.sync_phases.specs.Phases.{by_stream}
use Rattle.sync_phases.specs.Seen.{Informed}
use Rattle.sync_phases.specs.Worked.{SyncsAsWorked}

-- ---- a reply that is cut

-- where a reply comes in part, the steps are some first ones of those where more of it comes
abbrev pub TakingGoesOn : Type 0
TakingGoesOn =
    (x : Informed) (s : State) (h k : Option Place) (docs later : List SyncDoc) (e f : Ending)
    → GoOn (by_stream x s (record { head = h; docs = docs; ending = e })).steps
    (by_stream x s (record { head = k; docs = docs ++ later; ending = f })).steps

-- ---- what a peer replies

-- a reply to this question
abbrev pub IsReplyTo : Question → Reply → Type 0
IsReplyTo ForInfo (Tells info) = Unit {0}
IsReplyTo ForInfo Keeps = ⊥
IsReplyTo ForInfo (Returns at docs) = ⊥
IsReplyTo ForInfo (Refuses refusal) = Unit {0}
IsReplyTo (ToKeep place) (Tells info) = ⊥
IsReplyTo (ToKeep place) Keeps = Unit {0}
IsReplyTo (ToKeep place) (Returns at docs) = ⊥
IsReplyTo (ToKeep place) (Refuses refusal) = Unit {0}
IsReplyTo (ToExchange known sent) (Tells info) = ⊥
IsReplyTo (ToExchange known sent) Keeps = ⊥
IsReplyTo (ToExchange known sent) (Returns at docs) = Unit {0}
IsReplyTo (ToExchange known sent) (Refuses refusal) = Unit {0}

-- whoever serves as it is defined gives a reply to the question that was asked, and its bytes say to the source what is
-- defined here
pub record RepliesAreHeard : Type 0 where
  pub to : (s : State) (seed : ℕ) (db source : List ℕ) (question : Question)
      → IsReplyTo question (serve s seed (Asks db source (purpose_of question))).reply
  pub info : (reply : Reply) (bytes : List ℕ) → IsReplyTo ForInfo reply → ReadsBack bytes reply
      → ReadsReply SaysInfo bytes (info_said reply)
  pub returned : (known : Place) (sent : List SyncDoc) (reply : Reply) (bytes : List ℕ)
      → IsReplyTo (ToExchange known sent) reply → ReadsBack bytes reply
      → ReadsReply SaysReturned bytes (returned_said reply)
  pub kept : (place : Place) (reply : Reply) (bytes : List ℕ) → IsReplyTo (ToKeep place) reply → ReadsBack bytes reply
      → ReadsReply SaysKept bytes (kept_said reply)

-- ---- examples

-- for any address and seeds
abbrev pub WorksAsWorked : Type 0
WorksAsWorked = (to : Address) (seed other : ℕ) → SyncsAsWorked to seed other
