-- What a peer replies that serves as it is defined, and what its source hears.
use Rattle.std.proofs.Common.{ℕ, Bool, true, false, cond, List, [], ◌∷◌, ◌++◌}
use Rattle.u1_base.specs.Places.{Place}
use Rattle.u1_base.specs.Ids.{same_id}
use Rattle.translog.specs.Log.{fits_log}
use Rattle.translog.specs.Source.{passes}
use Rattle.vector_rev.specs.Counts.{Uid}
use Rattle.conflicts.specs.State.{State, after_all, position_kept}
use Rattle.conflicts.specs.declared.moves.PosTable.TheVariants.{Told}
use Rattle.sync_stream.specs.Came.{Whole}
use Rattle.sync_stream.specs.Laws.{ReadsBack}
use Rattle.sync_stream.specs.Messages.{Asks, ReadsReply, SaysInfo, SaysKept, SaysReturned}
use Rattle.sync_stream.specs.Replies.{LogCheck, NotFound, Refusal, Reply, Tells, Keeps, Returns, Refuses}
use Rattle.sync_stream.specs.Requests.{Question, ForInfo, ToKeep, ToExchange, purpose_of}
use Rattle.sync_stream.specs.Serving.{Held, Response, asked, exchanged, held_after, passing, refused, serve, steps_for}
use Rattle.sync_stream.specs.Serving.{steps_to, taken_of, told}
use Rattle.sync_stream.specs.declared.line.SyncDoc.{SyncDoc}
use Rattle.sync_phases.specs.Laws.{IsReplyTo, RepliesAreHeard}
use Rattle.sync_phases.specs.Peers.{info_said, kept_said, returned_said}

-- ---- a reply to the question

refuses : (question : Question) (refusal : Refusal) → IsReplyTo question (Refuses refusal)
refuses ForInfo refusal = tt
refuses (ToKeep place) refusal = tt
refuses (ToExchange known sent) refusal = tt

-- a test that refuses
checked : (b : Bool) (question : Question) (refusal : Refusal) (r : Response) → IsReplyTo question r.reply
    → IsReplyTo question (cond b r (refused refusal)).reply
checked true question refusal r is = is
checked false question refusal r is = refuses question refusal

exchanged_to : (place : Place) (sent : List SyncDoc) (s : State) (seed : ℕ) (source : Uid) (known : Place)
    (held : List Held) (docs : List SyncDoc)
    → IsReplyTo (ToExchange place sent) (exchanged s seed source known held docs Whole).reply
exchanged_to place sent s seed source known held [] = tt
exchanged_to place sent s seed source known held (doc ∷ docs) =
    let made = steps_for s seed false doc (record { table = Told; uid = source; at = doc.at }) in
    let after = after_all s made in
    let now = held ++ held_after (taken_of s doc false).outcome doc.id after in
    checked (passes (position_kept s Told source) doc.at) (ToExchange place sent) LogCheck
    (passing made (exchanged after seed source known now docs Whole))
    (exchanged_to place sent after seed source known now docs)

asked_to : (s : State) (seed : ℕ) (source : Uid) (question : Question)
    → IsReplyTo question (asked s seed source (purpose_of question)).reply
asked_to s seed source ForInfo = tt
asked_to s seed source (ToKeep at) =
    checked (passes (position_kept s Told source) at) (ToKeep at) LogCheck
    (record { reply = Keeps; steps = steps_to s (record { table = Told; uid = source; at = at }); passed = [] }) tt
asked_to s seed source (ToExchange known docs) =
    checked (fits_log s.log known) (ToExchange known docs) LogCheck (exchanged s seed source known [] docs Whole)
    (exchanged_to known docs s seed source known [] docs)

replies_to : (s : State) (seed : ℕ) (db source : List ℕ) (question : Question)
    → IsReplyTo question (serve s seed (Asks db source (purpose_of question))).reply
replies_to s seed db source question =
    checked (same_id s.name db) question NotFound (asked s seed source (purpose_of question))
    (asked_to s seed source question)

-- ---- its bytes

hears_info : (reply : Reply) (bytes : List ℕ) → IsReplyTo ForInfo reply → ReadsBack bytes reply
    → ReadsReply SaysInfo bytes (info_said reply)
hears_info (Tells told) bytes is reads = reads
hears_info Keeps bytes is reads = absurd is
hears_info (Returns at docs) bytes is reads = absurd is
hears_info (Refuses refusal) bytes is reads = reads.info

hears_returned : (known : Place) (sent : List SyncDoc) (reply : Reply) (bytes : List ℕ)
    → IsReplyTo (ToExchange known sent) reply → ReadsBack bytes reply
    → ReadsReply SaysReturned bytes (returned_said reply)
hears_returned known sent (Tells told) bytes is reads = absurd is
hears_returned known sent Keeps bytes is reads = absurd is
hears_returned known sent (Returns at docs) bytes is reads = reads
hears_returned known sent (Refuses refusal) bytes is reads = reads.returned

hears_kept : (place : Place) (reply : Reply) (bytes : List ℕ) → IsReplyTo (ToKeep place) reply → ReadsBack bytes reply
    → ReadsReply SaysKept bytes (kept_said reply)
hears_kept place (Tells told) bytes is reads = absurd is
hears_kept place Keeps bytes is reads = reads
hears_kept place (Returns at docs) bytes is reads = absurd is
hears_kept place (Refuses refusal) bytes is reads = reads.kept

pub heard : RepliesAreHeard
heard = record {
  to = replies_to;
  info = hears_info;
  returned = hears_returned;
  kept = hears_kept;
}
