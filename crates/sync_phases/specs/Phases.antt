-- The phases of a session: Ask, Send, Take, Settle, Finish. Each is a function of the state that it finds, of what the
-- phases before it left, and of what came back. Whatever else changes the replica between two of them is in that state.
-- Whether there is room for a step, and whether the disk and the memory last, is said where steps are made.
use Rattle.std.specs.Prelude.{ℕ, ◌+◌, ◌==◌, ◌&&◌, nat_le, Bool, true, false, not, if◌then◌else◌, List, [], ◌∷◌}
use Rattle.std.specs.Prelude.{length, option_to_list, Option, Some, None, Result, Ok, Err}
use Rattle.u1_base.specs.Ids.{same_id}
use Rattle.u1_base.specs.Places.{Place, same_place}
use Rattle.vector_rev.specs.Counts.{Uid}
use Rattle.translog.specs.declared.entry.Entry.{Entry}
use Rattle.translog.specs.Entries.{changes_since}
use Rattle.translog.specs.Log.{end_of, fits_log, mine_of}
use Rattle.conflicts.specs.State.{State, after_all, position_kept}
use Rattle.conflicts.specs.Writing.{Decided, Answers, Refuses, move_decides, step_in, take_decides}
use Rattle.conflicts.specs.declared.accept.Accept.{Accept}
use Rattle.conflicts.specs.declared.moves.Move.{Move}
use Rattle.conflicts.specs.declared.moves.PosTable.TheVariants.{Known}
use Rattle.conflicts.specs.declared.receipts.Outcome4.{Outcome4}
use Rattle.conflicts.specs.declared.receipts.Outcome4.TheVariants.{Inserted, Superseded, Converged, Conflicted}
use Rattle.conflicts.specs.declared.receipts.Taken.{Taken}
use Rattle.sync_http.specs.declared.info.Info.{Info}
use Rattle.sync_stream.specs.Came.{Ending, Whole, Faulty, Cut}
use Rattle.sync_stream.specs.Messages.{HeardReply, NoReply, BadReply, Status, Hears, Small, Says, Unread, Short, Over}
use Rattle.sync_stream.specs.Messages.{Stream}
use Rattle.sync_stream.specs.Requests.{Question, ToKeep, ToExchange}
use Rattle.sync_stream.specs.Serving.{sent}
use Rattle.sync_stream.specs.declared.fault.LineFault.{LineFault}
use Rattle.sync_stream.specs.declared.fault.LineFault.TheVariants.{At, TooLong}
use Rattle.sync_stream.specs.declared.line.SyncDoc.{SyncDoc}
use Rattle.sync_phases.specs.Phase.{Phase, and_then, answering, ended, unless_refused}
use Rattle.sync_phases.specs.Seen.{Begun, Informed, Exchanged}
use Rattle.sync_phases.specs.declared.asked.Asked.{Asked}
use Rattle.sync_phases.specs.declared.asked.Asked.TheVariants.{Level, Send}
use Rattle.sync_phases.specs.declared.fault.SyncFault.{SyncFault}
use Rattle.sync_phases.specs.declared.fault.SyncFault.TheVariants.{Link, Peer, Broken, LogCheck}
use Rattle.sync_phases.specs.declared.summary.Summary.{Summary}

-- ---- what came back. Of several causes the first in the reply counts: its head, its status, then its body

-- a small body: one that is longer than may be read counts as a fault of the head, which tells its length; one whose
-- bytes do not read as a fault of line 1
abbrev pub small_ends : {A : Type 0} → Small A → Result A SyncFault
small_ends (Says x) = Ok x
small_ends Unread = Err (Broken 1)
small_ends Short = Err Link
small_ends Over = Err (Broken 0)

abbrev pub line_fault : LineFault → SyncFault
line_fault (At n) = Broken n
line_fault (TooLong n) = Broken n

-- a stream, by how it ends
abbrev pub stream_ends : {A : Type 0} → Ending → A → Result A SyncFault
stream_ends Whole x = Ok x
stream_ends (Faulty fault) x = Err (line_fault fault)
stream_ends (Cut n) x = Err Link

-- a reply leads on by what it says, if it has the status 200
abbrev pub heard_ends : {A : Type 0} → HeardReply A → Result A SyncFault
heard_ends NoReply = Err Link
heard_ends (BadReply fault) = Err (Broken 0)
heard_ends (Status status) = Err (Peer status)
heard_ends (Hears x) = Ok x

abbrev pub small_heard : {A : Type 0} → HeardReply (Small A) → Result A SyncFault
small_heard heard = and_then (heard_ends heard) small_ends

-- ---- ASK: the target is asked for its info

-- the place up to which this replica knows the target's log
abbrev pub known_of : State → Uid → Place
known_of s target = position_kept s Known target

-- nothing was written here since the told place, and nothing at the target since the known one
abbrev pub is_level : State → Info → Bool
is_level s info =
    (length s.log == info.source_at.generation)
    && ((known_of s info.target).generation == info.target_at.generation)

-- where the two are level, their places have to be one
abbrev pub if_same : {A : Type 0} → State → Info → A → Result A SyncFault
if_same s info level =
    if same_place (known_of s info.target) info.target_at
    then Ok level
    else Err (LogCheck (known_of s info.target) info.target_at)

-- the info has to be one for this replica, and the place that it tells of this replica's log has to fit the log. Then
-- the two are level, or documents are to be exchanged
abbrev pub by_info : {A : Type 0} → State → Info → A → A → Result A SyncFault
by_info s info level send =
    if not (same_id info.source s.uid) then Err (Broken 1) else
    (if not (fits_log s.log info.source_at) then Err (LogCheck (mine_of s.log info.source_at) info.source_at) else
    (if is_level s info then if_same s info level else Ok send))

abbrev pub level_with : State → Uid → Summary
level_with s target = record {
  target = target;
  sent = 0;
  taken = 0;
  known = (known_of s target).generation;
  recorded = false;
}

abbrev pub informed : Begun → Info → Informed
informed x info = record { to = x.to; seed = x.seed; target = info.target; told = info.source_at }

abbrev pub ask : Begun → State → HeardReply (Small Info) → Phase (Asked Informed)
ask x s heard =
    ended (and_then (small_heard heard)
    (λ info. by_info s info (Level (level_with s info.target)) (Send (informed x info))))

-- ---- SEND: what changed here since the told place is posted, with the known place

-- the changed documents, each with its current member
abbrev pub changed : State → Place → List SyncDoc
changed s told = sent s (changes_since s.log told.generation)

abbrev pub posted_to : State → Uid → Place → Question
posted_to s target told = ToExchange (known_of s target) (changed s told)

abbrev pub posted : Informed → State → Question
posted x s = posted_to s x.target x.told

-- ---- TAKE: a document that came back is taken, with the known place moved to its own

abbrev pub known_to : Uid → Place → Move
known_to target at = record { table = Known; uid = target; at = at }

-- it is saved also where it is in conflict, since this replica asked for it
abbrev pub doc_decides : ℕ → Uid → SyncDoc → State → Decided Taken SyncFault
doc_decides seed target doc s = take_decides LogCheck seed doc.id doc.member true (known_to target doc.at) s

-- it counts as taken where it was inserted, and where it is in conflict and was accepted
abbrev pub is_accepted : Option Accept → ℕ
is_accepted None = 0
is_accepted (Some accept) = 1

abbrev pub count_by : Outcome4 → Option Accept → ℕ
count_by Inserted accepted = 1
count_by Superseded accepted = 0
count_by Converged accepted = 0
count_by Conflicted accepted = is_accepted accepted

abbrev pub count_of : Taken → ℕ
count_of taken = count_by taken.outcome taken.accepted

abbrev pub counted_in : Decided Taken SyncFault → ℕ
counted_in (Refuses fault) = 0
counted_in (Answers taken step) = count_of taken

-- one document after another, and then the end of the body; so many were taken before
abbrev pub taken_from : ℕ → Uid → State → ℕ → List SyncDoc → Ending → Phase ℕ
taken_from seed target s before [] ending = ended (stream_ends ending before)
taken_from seed target s before (doc ∷ docs) ending =
    let decided = doc_decides seed target doc s in
    let after = after_all s (option_to_list (step_in decided)) in
    unless_refused decided (taken_from seed target after (before + counted_in decided) docs ending)

-- a whole stream has a head, on line 2; what was sent is what the state had before the first document was taken
abbrev pub with_head : Informed → State → Option Place → ℕ → Result Exchanged SyncFault
with_head x s None taken = Err (Broken 2)
with_head x s (Some at) taken = Ok (record {
  to = x.to;
  seed = x.seed;
  target = x.target;
  base = length s.log;
  sent = length (changed s x.told);
  taken = taken;
  at = at;
})

abbrev pub by_stream : Informed → State → Stream → Phase Exchanged
by_stream x s stream =
    answering (taken_from x.seed x.target s 0 stream.docs stream.ending) (with_head x s stream.head)

-- Send and Take are one call: nothing comes between what is posted and what comes back
abbrev pub by_reply : Informed → State → Result Stream SyncFault → Phase Exchanged
by_reply x s (Ok stream) = by_stream x s stream
by_reply x s (Err fault) = ended (Err fault)

abbrev pub exchange : Informed → State → HeardReply Stream → Phase Exchanged
exchange x s heard = by_reply x s (heard_ends heard)

-- ---- SETTLE: the known place moves to the end of the target's log

abbrev pub end_decides : Uid → Place → State → Decided (Unit {0}) SyncFault
end_decides target at s = move_decides LogCheck (known_to target at) s

abbrev pub settle : Exchanged → State → Phase Exchanged
settle x s = unless_refused (end_decides x.target x.at s) (ended (Ok x))

-- ---- FINISH: the target is told where this log ends

-- since the documents were sent the log has grown by what was taken and by nothing else, and by something. Then the
-- target has all that is here
abbrev pub has_all : State → ℕ → ℕ → Bool
has_all s base taken = (length s.log == base + taken) && nat_le 1 taken

-- only then it is told
abbrev pub told_at : State → ℕ → ℕ → Option Question
told_at s base taken = if has_all s base taken then Some (ToKeep (end_of s.log)) else None

abbrev pub told_by : Exchanged → State → Option Question
told_by x s = told_at s x.base x.taken

abbrev pub summary : Exchanged → Bool → Summary
summary x recorded = record {
  target = x.target;
  sent = x.sent;
  taken = x.taken;
  known = x.at.generation;
  recorded = recorded;
}

-- what came back is that of a question, where one was sent
abbrev pub finished : Exchanged → Option Question → HeardReply (Small (Unit {0})) → Result Summary SyncFault
finished x None heard = Ok (summary x false)
finished x (Some question) heard = and_then (small_heard heard) (λ _. Ok (summary x true))

abbrev pub finish : Exchanged → State → HeardReply (Small (Unit {0})) → Phase Summary
finish x s heard = ended (finished x (told_by x s) heard)
