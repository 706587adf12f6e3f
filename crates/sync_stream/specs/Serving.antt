-- Serving: what a target replies to a request and which steps it makes, by its state, the request as far as it came,
-- and the seed of its transaction ids.
use Rattle.std.specs.Prelude.{◌≡◌, ◌⊎◌, ℕ, ◌≤◌, Bool, false, not, ◌&&◌, nat_le, if◌then◌else◌, List, [], ◌∷◌, ◌++◌}
use Rattle.std.specs.Prelude.{filter, length, option_to_list, slice_get, take, IfSome, Option, Some, None}
use Rattle.std.specs.List.{flat_map, list_any}
use Rattle.u1_base.specs.Ids.{same_id}
use Rattle.u1_base.specs.Places.{Place}
use Rattle.u1_base.specs.declared.limits.TheConstants.{GREATEST_COUNT}
use Rattle.translog.specs.Entries.{changes_since}
use Rattle.translog.specs.Log.{end_of, fits_log}
use Rattle.translog.specs.Source.{passes}
use Rattle.translog.specs.declared.entry.Change.{Change}
use Rattle.vector_rev.specs.Counts.{Uid}
use Rattle.conflicts.specs.Decision.{decides}
use Rattle.conflicts.specs.Document.{current_member}
use Rattle.conflicts.specs.State.{Text, State, Step, after_all, position_kept}
use Rattle.conflicts.specs.Writing.{move_step, take_step}
use Rattle.conflicts.specs.declared.member.Member.{Member}
use Rattle.conflicts.specs.declared.moves.Move.{Move}
use Rattle.conflicts.specs.declared.moves.PosTable.TheVariants.{Told}
use Rattle.conflicts.specs.declared.receipts.Outcome4.{Outcome4}
use Rattle.conflicts.specs.declared.receipts.Outcome4.TheVariants.{Inserted, Superseded, Converged, Conflicted}
use Rattle.conflicts.specs.declared.receipts.Taken.{Taken}
use Rattle.sync_http.specs.declared.info.Info.{Info}
use Rattle.sync_stream.specs.Came.{Ending, Whole, Faulty, Cut}
use Rattle.sync_stream.specs.Lines.{GoOn}
use Rattle.sync_stream.specs.Messages.{Purpose, AskInfo, Tell, Exchange, Request, EndsEarly, Refused, Asks, Says}
use Rattle.sync_stream.specs.Messages.{Unread, Short, Over, ReadsRequest}
use Rattle.sync_stream.specs.Replies.{Refusal, BadRequest, NotFound, LogCheck, TooLarge, StoreFailed, StoreFull}
use Rattle.sync_stream.specs.Replies.{NoMemory, Reply, Tells, Keeps, Returns, Refuses, head_refusal, reply_body}
use Rattle.sync_stream.specs.Replies.{reply_text}
use Rattle.sync_stream.specs.declared.fault.LineFault.TheVariants.{At, TooLong}
use Rattle.sync_stream.specs.declared.line.SyncDoc.{SyncDoc}

-- the reply to a request, the steps that are made before it, and, in order, those of each document that is passed
pub record Response : Type 0 where
  pub reply : Reply
  pub steps : List Step
  pub passed : List (List Step)

-- how many documents are applied: each that is passed, also one that makes no step
abbrev pub applied : Response → ℕ
applied response = length response.passed

-- all that the first one makes and passes, the second one does too, and then perhaps more
abbrev pub MakesMore : Response → Response → Type 0
MakesMore less all = GoOn less.steps all.steps × GoOn less.passed all.passed

abbrev pub refused : Refusal → Response
refused refusal = record { reply = Refuses refusal; steps = []; passed = [] }

-- one document more is passed before those, and makes these steps
abbrev pub passing : List Step → Response → Response
passing made later = record {
  reply = later.reply;
  steps = made ++ later.steps;
  passed = made ∷ later.passed;
}

-- ---- one document

-- the step that moves a place, none where it stands there
abbrev pub steps_to : State → Move → List Step
steps_to s move = option_to_list (move_step s move)

-- what becomes of a document that is handed over; `save` is set where this replica asked for it
abbrev pub taken_of : State → SyncDoc → Bool → Taken
taken_of s doc save = decides (s.document doc.id) doc.member save s.uid

-- what is accepted and the move are one step, which the next entry of the log names; where nothing is accepted there is
-- the move alone
abbrev pub steps_for : State → ℕ → Bool → SyncDoc → Move → List Step
steps_for s seed save doc move = option_to_list (take_step seed doc.id move s (taken_of s doc save).accepted)

-- ---- what is returned

-- a document that the source has as it was at this generation of the target's log
pub record Held : Type 0 where
  pub doc : Text
  pub generation : ℕ

-- after this outcome the source has the document as the target has it
abbrev pub held_after : Outcome4 → Text → State → List Held
held_after Inserted doc s = record { doc = doc; generation = length s.log } ∷ []
held_after Converged doc s = record { doc = doc; generation = length s.log } ∷ []
held_after Superseded doc s = []
held_after Conflicted doc s = []

abbrev pub is_held : List Held → Change → Bool
is_held held change = list_any (λ h. same_id h.doc change.doc && nat_le change.generation h.generation) held

-- the current member of a document, on its way
abbrev pub sent_if : Change → Option Member → List SyncDoc
sent_if change None = []
sent_if change (Some member) =
    record {
      id = change.doc;
      member = member;
      at =
          record { generation = change.generation; trans = Some change.trans };
    } ∷ []

-- the documents that changed, each with its current member
abbrev pub sent : State → List Change → List SyncDoc
sent s changes = flat_map (λ c. sent_if c (current_member (s.document c.doc))) changes

-- the end of the log, and the changes since the known place that the source does not have
abbrev pub returned : State → Place → List Held → Reply
returned s known held =
    Returns (end_of s.log) (sent s (filter (λ c. not (is_held held c)) (changes_since s.log known.generation)))

-- ---- an exchange

-- the reply where the body ends so: a refusal unless it is whole
abbrev pub ended_so : Ending → Reply → Reply
ended_so Whole reply = reply
ended_so (Faulty (At n)) reply = Refuses BadRequest
ended_so (Faulty (TooLong n)) reply = Refuses TooLarge
ended_so (Cut n) reply = Refuses BadRequest

-- each document in order, with the told place moved to its own, and then the end of the body
abbrev pub exchanged : State → ℕ → Uid → Place → List Held → List SyncDoc → Ending → Response
exchanged s seed source known held [] ending =
    record { reply = ended_so ending (returned s known held); steps = []; passed = [] }
exchanged s seed source known held (doc ∷ docs) ending =
    if passes (position_kept s Told source) doc.at
    then (let made = steps_for s seed false doc (record { table = Told; uid = source; at = doc.at }) in
    let after = after_all s made in
    passing made (exchanged after seed source known
    (held ++ held_after (taken_of s doc false).outcome doc.id after) docs ending))
    else refused LogCheck

-- the head is checked before the documents; only a body that is not whole has none
abbrev pub exchange : State → ℕ → Uid → Option Place → List SyncDoc → Ending → Response
exchange s seed source None docs ending =
    record { reply = ended_so ending (Refuses BadRequest); steps = []; passed = [] }
exchange s seed source (Some known) docs ending =
    if fits_log s.log known then exchanged s seed source known [] docs ending else refused LogCheck

-- ---- the other asks

abbrev pub info_of : State → Uid → Info
info_of s source = record {
  target = s.uid;
  target_at = end_of s.log;
  source = source;
  source_at =
      position_kept s Told source;
}

abbrev pub told : State → Uid → Place → Response
told s source at =
    if passes (position_kept s Told source) at
    then record { reply = Keeps; steps = steps_to s (record { table = Told; uid = source; at = at }); passed = [] }
    else refused LogCheck

abbrev pub asked : State → ℕ → Uid → Purpose → Response
asked s seed source AskInfo = record { reply = Tells (info_of s source); steps = []; passed = [] }
asked s seed source (Tell (Says at)) = told s source at
asked s seed source (Tell Unread) = refused BadRequest
asked s seed source (Tell Short) = refused BadRequest
asked s seed source (Tell Over) = refused TooLarge
asked s seed source (Exchange stream) = exchange s seed source stream.head stream.docs stream.ending

-- ---- serving

-- what a state replies to a request, and the steps, where nothing stops it
abbrev pub serve : State → ℕ → Request → Response
serve s seed EndsEarly = refused BadRequest
serve s seed (Refused fault) = refused (head_refusal fault)
serve s seed (Asks db source purpose) = if same_id s.name db then asked s seed source purpose else refused NotFound

-- ---- a stop

-- why serving stops early: the store has no room for this step, the store failed, or memory ran out
pub data Stop : Type 0 where
  Full : Step → Stop
  Failed : Stop
  Memory : Stop

abbrev pub stop_refusal : Stop → Refusal
stop_refusal (Full x) = StoreFull
stop_refusal Failed = StoreFailed
stop_refusal Memory = NoMemory

-- the steps of the first n documents
abbrev pub steps_before : ℕ → Response → List Step
steps_before n all = flat_map (λ steps. steps) (take n all.passed)

-- what stands behind the first n documents: the step that has no room is the next one, and it is that of the next
-- document, if there is one. Where memory runs out nothing does, or all was made and only the reply was left. Where
-- the store failed, steps of later documents may have been made too
abbrev pub IsNext : Response → ℕ → List Step → Stop → Type 0
IsNext all n made (Full x) =
    (made ≡ steps_before n all) × GoOn (made ++ x ∷ []) all.steps
    × IfSome (slice_get all.passed n) (λ steps. steps ≡ x ∷ [])
IsNext all n made Failed = Unit {0}
IsNext all n made Memory = (made ≡ steps_before n all) ⊎ ((n ≡ applied all) × (made ≡ all.steps))

-- of all that would be served n documents were applied and these steps made before it stopped
pub record StopsAfter (all : Response) (n : ℕ) (made : List Step) (stop : Stop) : Type 0 where
  pub within : n ≤ applied all
  -- the steps of these documents were made, and they are some first ones of all
  pub of_them : GoOn (steps_before n all) made
  pub of_all : GoOn made all.steps
  pub next : IsNext all n made stop

-- the stops that may come, by what is behind them at the replica that serves: a step that is too long for it, and that
-- it has failed. Memory may run out anywhere
abbrev pub CausedBy : (Step → Type 0) → Type 0 → Stop → Type 0
CausedBy is_too_long has_failed (Full x) = is_too_long x
CausedBy is_too_long has_failed Failed = has_failed
CausedBy is_too_long has_failed Memory = Unit {0}

-- any; and want of memory alone, as where a replica in memory serves, which is never full and never fails
abbrev pub AnyStop : Stop → Type 0
AnyStop = CausedBy (λ x. Unit {0}) (Unit {0})

abbrev pub OnlyMemory : Stop → Type 0
OnlyMemory = CausedBy (λ x. ⊥) ⊥

-- ---- serving as it is defined

-- the reply to a request, the steps that were made and the number of documents that were applied: all that is defined,
-- or what there was before a stop that may come
pub data Serves (may_stop : Stop → Type 0) (s : State) (seed : ℕ) (request : Request) (reply : Reply)
    (made : List Step) (n : ℕ) : Type 0 where
  whole : reply ≡ (serve s seed request).reply → made ≡ (serve s seed request).steps
      → n ≡ applied (serve s seed request) → Serves may_stop s seed request reply made n
  stopped : (stop : Stop) → may_stop stop → reply ≡ Refuses (stop_refusal stop)
      → StopsAfter (serve s seed request) n made stop → Serves may_stop s seed request reply made n

-- the bytes that were read say a request, to which the state replies with these bytes, makes these steps and applies so
-- many documents. The reply's head can tell the length of its body
pub record ServesBytes (may_stop : Stop → Type 0) (s : State) (seed : ℕ) (read written : List ℕ) (made : List Step)
    (n : ℕ) : Type 0 where
  pub request : Request
  pub reply : Reply
  pub reads : ReadsRequest read request
  pub serves : Serves may_stop s seed request reply made n
  pub counted : length (reply_body reply) ≤ GREATEST_COUNT
  pub writes : written ≡ reply_text reply
