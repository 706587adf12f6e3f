-- What is kept, over all replicas, of the places that each two keep of each other, and of all that is on its way.
use Rattle.std.specs.Prelude.{◌≡◌, ◌≢◌, ℕ, ◌≤◌, ◌&&◌, false, List, [], ◌∷◌, length, Some, IfSome}
use Rattle.std.specs.List.{slice_get}
use Rattle.u1_base.specs.Ids.{same_id}
use Rattle.u1_base.specs.Places.{Place}
use Rattle.vector_rev.specs.Counts.{Uid}
use Rattle.conflicts.specs.Lists.{In}
use Rattle.conflicts.specs.Document.{content_of}
use Rattle.conflicts.specs.State.{State, Step, Text, after, position_kept, same_table}
use Rattle.conflicts.specs.declared.moves.PosTable.{PosTable}
use Rattle.conflicts.specs.declared.moves.PosTable.TheVariants.{Known, Told}
use Rattle.sync_http.specs.declared.info.Info.{Info}
use Rattle.sync_stream.specs.Replies.{Reply, Tells, Keeps, Returns, Refuses}
use Rattle.sync_stream.specs.Requests.{Question, ForInfo, ToKeep, ToExchange}
use Rattle.sync_stream.specs.declared.line.SyncDoc.{SyncDoc}
use Rattle.sync_places.specs.inner.Facts.{NotOlder, Later, KnownUpTo, ToldTo, ToldUpTo, Listed, Returned, Recorded}
use Rattle.sync_world.specs.Source.{Session, Idle, AwaitsInfo, HasInfo, AwaitsReturned, Taking, Settled, AwaitsKept}
use Rattle.sync_world.specs.Source.{Complete}
use Rattle.sync_world.specs.World.{World, Sent, Serving}
use Rattle.world_laws.proofs.Single.{Single}

-- ---- two replicas: a with the uid u is the source, b with the uid v the target

pub record Pair (u v : Uid) (a b : State) : Type 0 where
  pub known : KnownUpTo a b (position_kept a Known v)
  pub told : ToldUpTo a b (position_kept b Told u)

-- a lists its changes from a place that it told b at the most
pub record Lists (u : Uid) (a b : State) (upto : ℕ) (docs : List SyncDoc) : Type 0 where
  pub from : ℕ
  pub listed : Listed a from upto docs
  pub told : from ≤ (position_kept b Told u).generation

pub record PostOk (u v : Uid) (a b : State) (known : Place) (docs : List SyncDoc) : Type 0 where
  pub upto : ℕ
  pub lists : Lists u a b upto docs
  pub before : known.generation ≤ (position_kept a Known v).generation

abbrev pub QuestionOk : Uid → Uid → State → State → Question → Type 0
QuestionOk u v a b ForInfo = Unit {0}
QuestionOk u v a b (ToKeep at) = ToldUpTo a b at
QuestionOk u v a b (ToExchange known docs) = PostOk u v a b known docs

-- b told a a place of a's log that is not behind the one that b keeps
abbrev pub InfoOk : Uid → State → Info → Type 0
InfoOk u b info = info.source_at.generation ≤ (position_kept b Told u).generation

-- b took over what was sent, and a takes what b returned: all that b reads of it now, up to the end of b's log
pub record ReturnsOk (v : Uid) (a b : State) (question : Question) (top : Place) (docs : List SyncDoc) : Type 0 where
  pub known : Place
  pub sent : List SyncDoc
  pub is : question ≡ ToExchange known sent
  pub not_older : (doc : SyncDoc) → In doc sent → NotOlder (b.document doc.id) doc.member.rev
  pub returned : Returned a b v docs top
  pub end : top.generation ≡ length b.log
  pub now : (doc : SyncDoc) → In doc docs → doc.member.content ≡ content_of (b.document doc.id)

abbrev pub ReplyOk : Uid → Uid → State → State → Question → Reply → Type 0
ReplyOk u v a b question (Tells info) =
    (info.target ≡ v) × InfoOk u b info × (info.target_at.generation ≡ length b.log)
ReplyOk u v a b question Keeps = Unit {0}
ReplyOk u v a b question (Returns top docs) = ReturnsOk v a b question top docs
ReplyOk u v a b question (Refuses refusal) = Unit {0}

-- what a step that serves this question leaves of the documents: of a place that is told, all as they were; else each
-- is in conflict only if it was
abbrev pub LeavesBy : Question → State → State → Type 0
LeavesBy ForInfo b c = (d : Text) → Single (b.document d) → Single (c.document d)
LeavesBy (ToKeep at) b c = (d : Text) → c.document d ≡ b.document d
LeavesBy (ToExchange known docs) b c = (d : Text) → Single (b.document d) → Single (c.document d)

-- a step of b that serves a moves what b was told by a, and no other place
pub record StepOk (u : Uid) (a b : State) (question : Question) (x : Step) : Type 0 where
  pub later : Later b (after b x)
  pub told : ToldUpTo a (after b x) (position_kept (after b x) Told u)
  pub others : (table : PosTable) (z : Uid) → (same_table table Told && same_id z u) ≡ false
      → position_kept (after b x) table z ≡ position_kept b table z
  pub leaves : LeavesBy question b (after b x)

-- each step where those before it are made, and then the reply
abbrev pub Serves : Uid → Uid → State → State → Question → List Step → Reply → Type 0
Serves u v a b question [] said = ReplyOk u v a b question said
Serves u v a b question (x ∷ later) said = StepOk u a b question x × Serves u v a (after b x) question later said

-- ---- all replicas

abbrev pub States : Type 0
States = Uid → State

-- a request names two replicas
abbrev pub SentOk : States → Sent → Type 0
SentOk s r = (r.source ≢ r.target) × QuestionOk r.source r.target (s r.source) (s r.target) r.question

pub record AwaitsOk (a : State) (s : States) (sent : List Sent) (u v : Uid) (base n : ℕ) : Type 0 where
  pub apart : u ≢ v
  pub known : Place
  pub docs : List SyncDoc
  pub named : slice_get sent n ≡ Some (record { source = u; target = v; question = ToExchange known docs })
  pub lists : Lists u a (s v) base docs

-- the target has what stood in the log of a when a posted, and what a took since then
pub record RepliedOk (a : State) (s : States) (u v : Uid) (base taken : ℕ) : Type 0 where
  pub apart : u ≢ v
  pub told : ToldTo a (s v) base
  pub recorded : Recorded a (s v) base taken

-- where a session of the replica u stands, whose state is a
abbrev pub SessionAt : State → States → List Sent → Uid → Session → Type 0
SessionAt a s sent u Idle = Unit {0}
SessionAt a s sent u (AwaitsInfo n) = Unit {0}
SessionAt a s sent u (HasInfo info) = (u ≢ info.target) × InfoOk u (s info.target) info
SessionAt a s sent u (AwaitsReturned v base n) = AwaitsOk a s sent u v base n
SessionAt a s sent u (Taking v base taken docs top) = RepliedOk a s u v base taken × Returned a (s v) v docs top
SessionAt a s sent u (Settled v base taken) = RepliedOk a s u v base taken
SessionAt a s sent u (AwaitsKept v n) = Unit {0}
SessionAt a s sent u (Complete v) = Unit {0}

pub record ServingOk (s : States) (sent : List Sent) (v : Uid) (serving : Serving) : Type 0 where
  pub request : Sent
  pub named : slice_get sent serving.number ≡ Some request
  pub target : request.target ≡ v
  pub apart : request.source ≢ v
  pub serves : Serves request.source v (s request.source) (s v) request.question serving.left.steps serving.left.reply

pub record PlacedOver (s : States) (w : World) : Type 0 where
  pub pairs : (u v : Uid) → u ≢ v → Pair u v (s u) (s v)
  pub sent : (r : Sent) → In r w.sent → SentOk s r
  pub session : (u : Uid) → SessionAt (s u) s w.sent u (w.replica u).session
  pub serving : (v : Uid) → IfSome (w.replica v).serving (ServingOk s w.sent v)
