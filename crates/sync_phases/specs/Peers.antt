-- A session with a peer that serves as it is defined, where nothing else changes either: what both are after it.
use Rattle.std.specs.Prelude.{ℕ, [], Option, Some, None, Result, Ok, Err}
use Rattle.vector_rev.specs.Counts.{Uid}
use Rattle.conflicts.specs.State.{State, after_all}
use Rattle.sync_http.specs.declared.info.Info.{Info}
use Rattle.sync_stream.specs.Came.{Whole, Faulty}
use Rattle.sync_stream.specs.Messages.{Asks, HeardReply, NoReply, Status, Hears, Small, Says, Unread, Stream}
use Rattle.sync_stream.specs.Replies.{Reply, Tells, Keeps, Returns, Refuses, refusal_status}
use Rattle.sync_stream.specs.Requests.{Question, ForInfo, purpose_of}
use Rattle.sync_stream.specs.Serving.{Response, serve}
use Rattle.sync_stream.specs.declared.fault.LineFault.TheVariants.{At}
use Rattle.sync_phases.specs.Phase.{Phase}
use Rattle.sync_phases.specs.Phases.{ask, finished, posted, told_by}
use Rattle.sync_phases.specs.Seen.{Begun, Informed, Exchanged}
use Rattle.sync_phases.specs.Sessions.{settled}
use Rattle.sync_phases.specs.declared.asked.Asked.{Asked}
use Rattle.sync_phases.specs.declared.asked.Asked.TheVariants.{Level, Send}
use Rattle.sync_phases.specs.declared.fault.SyncFault.{SyncFault}
use Rattle.sync_phases.specs.declared.summary.Summary.{Summary}

-- ---- what a reply says to the source, by what it asked. No serving replies to another question than the one that was
-- asked; such a reply does not read

abbrev pub info_said : Reply → HeardReply (Small Info)
info_said (Tells info) = Hears (Says info)
info_said Keeps = Hears Unread
info_said (Returns at docs) = Hears Unread
info_said (Refuses refusal) = Status (refusal_status refusal)

abbrev pub unread_stream : Stream
unread_stream = record { head = None; docs = []; ending = Faulty (At 1) }

abbrev pub returned_said : Reply → HeardReply Stream
returned_said (Tells info) = Hears unread_stream
returned_said Keeps = Hears unread_stream
returned_said (Returns at docs) = Hears (record { head = Some at; docs = docs; ending = Whole })
returned_said (Refuses refusal) = Status (refusal_status refusal)

abbrev pub kept_said : Reply → HeardReply (Small (Unit {0}))
kept_said (Tells info) = Hears Unread
kept_said Keeps = Hears (Says tt)
kept_said (Returns at docs) = Hears Unread
kept_said (Refuses refusal) = Status (refusal_status refusal)

-- ---- the session

-- b serves the question of a source that asks for the database that b has
abbrev pub served : ℕ → Uid → State → Question → Response
served seed source b question = serve b seed (Asks b.name source (purpose_of question))

-- the two states, and what the session has come to
pub record Pair (A : Type 0) : Type 0 where
  pub source : State
  pub peer : State
  pub ends : Result A SyncFault

-- what the peer served to a question, and the phase that followed on it
abbrev pub met : {A : Type 0} → State → State → Response → Phase A → Pair A
met a b r p = record { source = after_all a p.steps; peer = after_all b r.steps; ends = p.ends }

abbrev pub told_peer : ℕ → Exchanged → State → State → Option Question → Pair Summary
told_peer seed x a b None = record { source = a; peer = b; ends = finished x None NoReply }
told_peer seed x a b (Some question) =
    let r = served seed a.uid b question in
    record { source = a; peer = after_all b r.steps; ends = finished x (Some question) (kept_said r.reply) }

abbrev pub finished_with : ℕ → State → State → Result Exchanged SyncFault → Pair Summary
finished_with seed a b (Ok x) = told_peer seed x a b (told_by x a)
finished_with seed a b (Err fault) = record { source = a; peer = b; ends = Err fault }

abbrev pub exchanged_with : ℕ → State → State → Informed → Pair Exchanged
exchanged_with seed a b x =
    let r = served seed a.uid b (posted x a) in met a b r (settled x a (returned_said r.reply))

abbrev pub sent_to : ℕ → State → State → Result (Asked Informed) SyncFault → Pair Summary
sent_to seed a b (Ok (Level summary)) = record { source = a; peer = b; ends = Ok summary }
sent_to seed a b (Ok (Send x)) = let p = exchanged_with seed a b x in finished_with seed p.source p.peer p.ends
sent_to seed a b (Err fault) = record { source = a; peer = b; ends = Err fault }

-- A SESSION of a with b: the source makes ids by the seed of x, the peer by `seed`
abbrev pub synced : Begun → ℕ → State → State → Pair Summary
synced x seed a b = sent_to seed a b (ask x a (info_said (served seed a.uid b ForInfo).reply)).ends
