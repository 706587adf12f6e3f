-- The source of a session in a world: where the session stands, and what the replica does next, by its state. The
-- decisions are those of a session's phases; here they are told apart by the moments between which others may act.
use Rattle.std.specs.Prelude.{ℕ, ◌+◌, ◌==◌, if◌then◌else◌, List, [], ◌∷◌, length, option_to_list, Option, Some, None}
use Rattle.std.specs.Prelude.{Result, Ok, Err}
use Rattle.u1_base.specs.Places.{Place}
use Rattle.vector_rev.specs.Counts.{Uid}
use Rattle.conflicts.specs.State.{State, Step}
use Rattle.conflicts.specs.Writing.{Decided, Answers, Refuses}
use Rattle.conflicts.specs.declared.receipts.Taken.{Taken}
use Rattle.sync_http.specs.declared.info.Info.{Info}
use Rattle.sync_stream.specs.Requests.{Question}
use Rattle.sync_stream.specs.Replies as reply
use Rattle.sync_stream.specs.declared.line.SyncDoc.{SyncDoc}
use Rattle.sync_phases.specs.Phases.{by_info, count_of, doc_decides, end_decides, posted_to, told_at}
use Rattle.sync_phases.specs.declared.fault.SyncFault.{SyncFault}

-- where a session stands. A request is named by its number: how many were sent before it
pub data Session : Type 0 where
  -- there is none, or it ended early
  Idle : Session
  -- it waits for the reply to this request for the info; then it has the info
  AwaitsInfo : ℕ → Session
  HasInfo : Info → Session
  -- it posted its documents to this target, when its log was so long, and waits for the reply to this request
  AwaitsReturned : Uid → ℕ → ℕ → Session
  -- of the documents that came back so many count as taken, these are left, and the target's log ends here
  Taking : Uid → ℕ → ℕ → List SyncDoc → Place → Session
  -- the known place is the end of the target's log
  Settled : Uid → ℕ → ℕ → Session
  -- it waits for the reply to this request to keep its place as told
  AwaitsKept : Uid → ℕ → Session
  Complete : Uid → Session

-- a question on its way to a target
pub record Letter : Type 0 where
  pub target : Uid
  pub question : Question

-- what a replica does at once: the steps that it makes, where its session stands then, and what it sends
pub record Turn : Type 0 where
  pub steps : List Step
  pub session : Session
  pub sends : Option Letter

abbrev pub goes : Session → Turn
goes session = record { steps = []; session = session; sends = None }

abbrev pub makes : Option Step → Session → Turn
makes step session = record { steps = option_to_list step; session = session; sends = None }

abbrev pub asks : Session → Uid → Question → Turn
asks session target question =
    record { steps = []; session = session; sends = Some (record { target = target; question = question }) }

-- ---- what each phase does; a fault ends the session

abbrev pub unless_fault : Result Turn SyncFault → Turn
unless_fault (Ok turn) = turn
unless_fault (Err fault) = goes Idle

-- the changes since the told place go out as request n
abbrev pub posts : State → ℕ → Info → Turn
posts s n info =
    asks (AwaitsReturned info.target (length s.log) n) info.target (posted_to s info.target info.source_at)

abbrev pub sends_by : State → ℕ → Info → Turn
sends_by s n info = unless_fault (by_info s info (goes (Complete info.target)) (posts s n info))

-- the next document that came back
abbrev pub takes_by : Uid → ℕ → ℕ → List SyncDoc → Place → Decided Taken SyncFault → Turn
takes_by target base taken docs top (Refuses fault) = goes Idle
takes_by target base taken docs top (Answers answer step) =
    makes step (Taking target base (taken + count_of answer) docs top)

abbrev pub settles_by : Uid → ℕ → ℕ → Decided (Unit {0}) SyncFault → Turn
settles_by target base taken (Refuses fault) = goes Idle
settles_by target base taken (Answers answer step) = makes step (Settled target base taken)

-- the target is told as request n, or there is nothing to tell
abbrev pub finishes_by : ℕ → Uid → Option Question → Turn
finishes_by n target None = goes (Complete target)
finishes_by n target (Some question) = asks (AwaitsKept target n) target question

-- ---- by where the session stands; elsewhere nothing is done

abbrev pub send_turn : State → ℕ → Session → Turn
send_turn s n Idle = goes Idle
send_turn s n (AwaitsInfo m) = goes (AwaitsInfo m)
send_turn s n (HasInfo info) = sends_by s n info
send_turn s n (AwaitsReturned v base m) = goes (AwaitsReturned v base m)
send_turn s n (Taking v base taken docs top) = goes (Taking v base taken docs top)
send_turn s n (Settled v base taken) = goes (Settled v base taken)
send_turn s n (AwaitsKept v m) = goes (AwaitsKept v m)
send_turn s n (Complete v) = goes (Complete v)

abbrev pub take_turn : State → ℕ → Session → Turn
take_turn s seed Idle = goes Idle
take_turn s seed (AwaitsInfo m) = goes (AwaitsInfo m)
take_turn s seed (HasInfo info) = goes (HasInfo info)
take_turn s seed (AwaitsReturned v base m) = goes (AwaitsReturned v base m)
take_turn s seed (Taking v base taken [] top) = goes (Taking v base taken [] top)
take_turn s seed (Taking v base taken (doc ∷ docs) top) =
    takes_by v base taken docs top (doc_decides seed v doc s)
take_turn s seed (Settled v base taken) = goes (Settled v base taken)
take_turn s seed (AwaitsKept v m) = goes (AwaitsKept v m)
take_turn s seed (Complete v) = goes (Complete v)

abbrev pub settle_turn : State → Session → Turn
settle_turn s Idle = goes Idle
settle_turn s (AwaitsInfo m) = goes (AwaitsInfo m)
settle_turn s (HasInfo info) = goes (HasInfo info)
settle_turn s (AwaitsReturned v base m) = goes (AwaitsReturned v base m)
settle_turn s (Taking v base taken [] top) = settles_by v base taken (end_decides v top s)
settle_turn s (Taking v base taken (doc ∷ docs) top) = goes (Taking v base taken (doc ∷ docs) top)
settle_turn s (Settled v base taken) = goes (Settled v base taken)
settle_turn s (AwaitsKept v m) = goes (AwaitsKept v m)
settle_turn s (Complete v) = goes (Complete v)

abbrev pub finish_turn : State → ℕ → Session → Turn
finish_turn s n Idle = goes Idle
finish_turn s n (AwaitsInfo m) = goes (AwaitsInfo m)
finish_turn s n (HasInfo info) = goes (HasInfo info)
finish_turn s n (AwaitsReturned v base m) = goes (AwaitsReturned v base m)
finish_turn s n (Taking v base taken docs top) = goes (Taking v base taken docs top)
finish_turn s n (Settled v base taken) = finishes_by n v (told_at s base taken)
finish_turn s n (AwaitsKept v m) = goes (AwaitsKept v m)
finish_turn s n (Complete v) = goes (Complete v)

-- ---- a reply comes; a refusal, or a reply to another question than was asked, ends the session

abbrev pub info_in : reply.Reply → Session
info_in (reply.Tells info) = HasInfo info
info_in reply.Keeps = Idle
info_in (reply.Returns top docs) = Idle
info_in (reply.Refuses refusal) = Idle

abbrev pub returned_in : Uid → ℕ → reply.Reply → Session
returned_in v base (reply.Tells info) = Idle
returned_in v base reply.Keeps = Idle
returned_in v base (reply.Returns top docs) = Taking v base 0 docs top
returned_in v base (reply.Refuses refusal) = Idle

abbrev pub kept_in : Uid → reply.Reply → Session
kept_in v (reply.Tells info) = Idle
kept_in v reply.Keeps = Complete v
kept_in v (reply.Returns top docs) = Idle
kept_in v (reply.Refuses refusal) = Idle

-- the reply to request n; a session that does not wait for it stays as it is
abbrev pub hears : ℕ → reply.Reply → Session → Session
hears n said Idle = Idle
hears n said (AwaitsInfo m) = if m == n then info_in said else AwaitsInfo m
hears n said (HasInfo info) = HasInfo info
hears n said (AwaitsReturned v base m) = if m == n then returned_in v base said else AwaitsReturned v base m
hears n said (Taking v base taken docs top) = Taking v base taken docs top
hears n said (Settled v base taken) = Settled v base taken
hears n said (AwaitsKept v m) = if m == n then kept_in v said else AwaitsKept v m
hears n said (Complete v) = Complete v
