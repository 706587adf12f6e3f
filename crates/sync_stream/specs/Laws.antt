-- What holds of all streams.
use Rattle.std.specs.Prelude.{◌≡◌, ◌≢◌, ◌<◌, ◌≤◌, ◌⊎◌, ℕ, Bool, true, false, Option, List, [], ◌∷◌, ◌++◌, length, map}
use Rattle.std.specs.Prelude.{Some, None, IfSome, Ok}
use Rattle.std.specs.List.{AllByRecursion}
use Rattle.content.specs.Contents.{IsContent}
use Rattle.u1_base.specs.Ids.{IsId}
use Rattle.u1_base.specs.Places.{Place}
use Rattle.u1_base.specs.declared.ids.Form.TheVariants.{Document}
use Rattle.u1_base.specs.declared.limits.TheConstants.{GREATEST_COUNT}
use Rattle.conflicts.specs.State.{State, Step}
use Rattle.sync_http.specs.Bodies.{IsInfo, info_in, kept_in, told_in}
use Rattle.sync_http.specs.Hearing.{SaysRequest}
use Rattle.sync_http.specs.Laws.{CanAsk}
use Rattle.sync_http.specs.Positions.{IsPosition}
use Rattle.sync_http.specs.declared.address.Address.{Address}
use Rattle.sync_http.specs.declared.heads.RequestHead.{RequestHead}
use Rattle.sync_http.specs.declared.info.Info.{Info}
use Rattle.sync_stream.specs.Lines.{GoOn}
use Rattle.sync_stream.specs.Format.{IsBody, IsStream}
use Rattle.sync_stream.specs.Stream.{Begins, Ends, HasFault, IsFaultyAt, Passes, end_fault}
use Rattle.sync_stream.specs.HeldText.{HasNoMore, HeldText, StandsFor}
use Rattle.sync_stream.specs.Came.{Cut, Ending, Faulty, IsQuiet, SaysBody, Whole, ending_of}
use Rattle.sync_stream.specs.Written.{stream_text}
use Rattle.sync_stream.specs.Messages.{Asks, Exchange, Hears, ReadsReply, ReadsRequest, Request, Says, SaysInfo}
use Rattle.sync_stream.specs.Messages.{Purpose}
use Rattle.sync_stream.specs.Messages.{SaysKept}
use Rattle.sync_stream.specs.Messages.{Over, SaysReturned, SaysStream, Short, Status, Stream, most_small}
use Rattle.sync_stream.specs.Messages.{small_if, small_of}
use Rattle.sync_stream.specs.Replies.{Keeps, Refuses, Reply, Returns, StoreFailed, StoreFull, Tells, refusal_status}
use Rattle.sync_stream.specs.Replies.{reply_body, reply_status, reply_text}
use Rattle.sync_stream.specs.Requests.{ForInfo, Question, ToExchange, ToKeep, purpose_of, request_head, request_text}
use Rattle.sync_stream.specs.Serving.{MakesMore, OnlyMemory, Serves, applied, serve, steps_before}
use Rattle.sync_stream.specs.Worked.{ServesAsWorked}
use Rattle.sync_stream.specs.declared.line.HeadKind.{HeadKind}
use Rattle.sync_stream.specs.declared.line.Line.{Line}
use Rattle.sync_stream.specs.declared.line.Line.TheVariants.{Head, Doc, End}
use Rattle.sync_stream.specs.declared.line.Next.{Next}
use Rattle.sync_stream.specs.declared.line.Next.TheVariants.{Opening, Closed}
use Rattle.sync_stream.specs.declared.line.SyncDoc.{SyncDoc}
use Rattle.sync_stream.specs.declared.fault.LineFault.{LineFault}

-- of two readings of one text one says what the other says, and then more: so the lines do not depend on how it was cut
abbrev pub OneReading : Type 0
OneReading =
    (kind : HeadKind) (text : List ℕ) (ls ms : List (List ℕ)) (said more : List Line) (p q : Next) (r s : List ℕ)
    → Begins kind text ls said p r → Begins kind text ms more q s → GoOn said more ⊎ GoOn more said

-- a text has at most one first faulty line
abbrev pub OneFirstFault : Type 0
OneFirstFault =
    (kind : HeadKind) (text : List ℕ) (f g : LineFault) → HasFault kind text f → HasFault kind text g → f ≡ g

-- the lines of a whole stream say its head, its documents and the end, and lines that are good up to the end are those
-- of a whole stream
pub record BodiesPass : Type 0 where
  pub passes : (kind : HeadKind) (lines : List (List ℕ)) (head : Place) (docs : List SyncDoc)
      → IsBody kind lines head docs
      → Passes kind Opening lines (Head head ∷ map Doc docs ++ End ∷ []) Closed
  pub only : (kind : HeadKind) (lines : List (List ℕ)) (said : List Line) → Passes kind Opening lines said Closed
      → (head : Place) × (docs : List SyncDoc) × IsBody kind lines head docs
      × (said ≡ Head head ∷ map Doc docs ++ End ∷ [])

-- a body has no fault exactly if it is a whole stream
pub record WholeStreams : Type 0 where
  pub sound : (kind : HeadKind) (text : List ℕ) (said : List Line) → Ends kind text said None → IsStream kind text said
  pub complete : (kind : HeadKind) (text : List ℕ) (said : List Line) → IsStream kind text said
      → Ends kind text said None

-- ---- what is written

-- a document that can be sent
pub record IsSent (doc : SyncDoc) : Type 0 where
  pub id : IsId Document doc.id
  pub content : IfSome doc.member.content IsContent
  pub at : IsPosition doc.at
  pub later : 1 ≤ doc.at.generation

-- a stream that was written is whole, and says its head, its documents and the end
abbrev pub StreamsReadBack : Type 0
StreamsReadBack =
    (kind : HeadKind) (head : Place) (docs : List SyncDoc) → IsPosition head → AllByRecursion IsSent docs
    → Ends kind (stream_text kind head docs) (Head head ∷ map Doc docs ++ End ∷ []) None

-- ---- whole messages

-- what a question holds can be sent
abbrev pub IsAskable : Question → Type 0
IsAskable ForInfo = Unit {0}
IsAskable (ToKeep at) = IsPosition at
IsAskable (ToExchange known docs) = IsPosition known × AllByRecursion IsSent docs

-- what a reply holds can be sent
abbrev pub IsGiven : Reply → Type 0
IsGiven (Tells info) = IsInfo info
IsGiven Keeps = Unit {0}
IsGiven (Returns at docs) =
    IsPosition at × AllByRecursion IsSent docs × (length (reply_body (Returns at docs)) ≤ GREATEST_COUNT)
IsGiven (Refuses refusal) = Unit {0}

-- whatever was asked, these bytes are read as a reply of this status
pub record IsRefused (bytes : List ℕ) (status : ℕ) : Type 0 where
  pub info : ReadsReply SaysInfo bytes (Status status)
  pub kept : ReadsReply SaysKept bytes (Status status)
  pub returned : ReadsReply SaysReturned bytes (Status status)

-- the bytes are read as this reply
abbrev pub ReadsBack : List ℕ → Reply → Type 0
ReadsBack bytes (Tells info) = ReadsReply SaysInfo bytes (Hears (Says info))
ReadsBack bytes Keeps = ReadsReply SaysKept bytes (Hears (Says tt))
ReadsBack bytes (Returns at docs) =
    ReadsReply SaysReturned bytes (Hears (record { head = Some at; docs = docs; ending = Whole }))
ReadsBack bytes (Refuses refusal) = IsRefused bytes (refusal_status refusal)

-- a request or a reply that was written, head and body, is read as itself, whatever follows
pub record MessagesReadBack : Type 0 where
  pub request : (to : Address) (source : List ℕ) (question : Question) (more : List ℕ)
      → CanAsk to (request_head to source question) → IsAskable question
      → ReadsRequest (request_text to source question ++ more) (Asks to.db source (purpose_of question))
  pub reply : (reply : Reply) (more : List ℕ) → IsGiven reply → ReadsBack (reply_text reply ++ more) reply
  -- the status that is heard of a front of a reply is its own, whatever was asked
  pub status : (reply : Reply) (given more : List ℕ) (status : ℕ) → length (reply_body reply) ≤ GREATEST_COUNT
      → reply_text reply ≡ given ++ more → ReadsReply SaysInfo given (Status status) → status ≡ reply_status reply

-- ---- bodies beside the length that their head says

-- a small body is read up to its length, whatever follows, unless its bytes end before that or it is too long
pub record SmallByLength (A : Type 0) (reads : List ℕ → Option A) : Type 0 where
  pub over : (n : ℕ) (bytes : List ℕ) → most_small < n → small_of reads n bytes ≡ Over
  pub short : (n : ℕ) (bytes : List ℕ) → n ≤ most_small → length bytes < n → small_of reads n bytes ≡ Short
  pub read : (body more : List ℕ) → length body ≤ most_small
      → small_of reads (length body) (body ++ more) ≡ small_if (reads body)

-- and so is a stream, which is not whole where its bytes end early
pub record BodiesByLength : Type 0 where
  pub told : SmallByLength Place told_in
  pub info : SmallByLength Info info_in
  pub kept : SmallByLength (Unit {0}) kept_in
  pub short : (kind : HeadKind) (n : ℕ) (bytes : List ℕ) (stream : Stream) → length bytes < n
      → SaysStream kind bytes n stream → stream.ending ≢ Whole
  pub behind : (kind : HeadKind) (body more : List ℕ) (stream : Stream)
      → SaysStream kind (body ++ more) (length body) stream → SaysStream kind body (length body) stream

-- ---- what came of a body

-- what a reader stands for is what the bytes say that came: where the source ended, where a fault was found, and where
-- the body is over. And whatever bytes came, they say lines that go on from the good ones so far, and end in some way
pub record ReadersSay : Type 0 where
  pub cut : (reader : HeldText) (text : List ℕ) (given : List Line) → StandsFor reader text given → HasNoMore reader
      → SaysBody reader.kind text false given (Cut reader.number)
  pub faulty : (reader : HeldText) (text : List ℕ) (given : List Line) (all : Bool) (fault : LineFault)
      → StandsFor reader text given
      → IsFaultyAt reader.kind reader.number reader.place reader.rest fault
      → SaysBody reader.kind text all given (Faulty fault)
  pub over : (reader : HeldText) (text : List ℕ) (given : List Line) (ending : Option LineFault)
      → StandsFor reader text given
      → IsQuiet reader.place reader.rest → end_fault reader.kind reader.number reader.place reader.rest ≡ ending
      → SaysBody reader.kind text true given (ending_of ending)
  pub goes_on : (kind : HeadKind) (text : List ℕ) (lines : List (List ℕ)) (given : List Line) (place : Next)
      (rest : List ℕ) (all : Bool) → Begins kind text lines given place rest
      → (later : List Line) × (ending : Ending) × SaysBody kind text all (given ++ later) ending
  -- so bytes that begin with the head of a request say a request, however much of its body came
  pub asked : (bytes : List ℕ) (head : RequestHead) (n : ℕ) → SaysRequest bytes (Ok head) n
      → (purpose : Purpose) × ReadsRequest bytes (Asks head.db head.source purpose)

-- what came of a body says one thing
abbrev pub OneSaying : Type 0
OneSaying =
    (kind : HeadKind) (bytes : List ℕ) (all : Bool) (said more : List Line) (e f : Ending)
    → SaysBody kind bytes all said e → SaysBody kind bytes all more f → (said ≡ more) × (e ≡ f)

-- ---- serving

-- what is served of an exchange that came in part are the first steps and documents of what is served where more of its
-- documents come
abbrev pub ServingGoesOn : Type 0
ServingGoesOn =
    (s : State) (seed : ℕ) (db source : List ℕ) (head : Option Place) (docs later : List SyncDoc) (e f : Ending)
    → MakesMore (serve s seed (Asks db source (Exchange (record { head = head; docs = docs; ending = e }))))
    (serve s seed (Asks db source (Exchange (record { head = head; docs = docs ++ later; ending = f }))))

-- so a request of which a front was read asks for some first ones of the steps that the whole request asks for
abbrev pub CutRequestsGoOn : Type 0
CutRequestsGoOn =
    (s : State) (seed : ℕ) (read more : List ℕ) (cut all : Request) → ReadsRequest read cut
    → ReadsRequest (read ++ more) all → MakesMore (serve s seed cut) (serve s seed all)

-- it is no refusal of the store
abbrev pub IsNotOfStore : Reply → Type 0
IsNotOfStore reply = (reply ≢ Refuses StoreFull) × (reply ≢ Refuses StoreFailed)

pub record ServingIs : Type 0 where
  pub goes_on : ServingGoesOn
  pub cut : CutRequestsGoOn
  -- the steps of an exchange are those of the documents that it passes
  pub documents : (s : State) (seed : ℕ) (db source : List ℕ) (stream : Stream)
      → (serve s seed (Asks db source (Exchange stream))).steps
      ≡ steps_before (applied (serve s seed (Asks db source (Exchange stream))))
      (serve s seed (Asks db source (Exchange stream)))
  -- a store is not among what is defined over states: it refuses by a stop alone. So where nothing but want of memory
  -- stops a serving it never does
  pub store : (s : State) (seed : ℕ) (request : Request) → IsNotOfStore (serve s seed request).reply
  pub only_memory : (s : State) (seed : ℕ) (request : Request) (reply : Reply) (made : List Step) (n : ℕ)
      → Serves OnlyMemory s seed request reply made n → IsNotOfStore reply
  pub worked : ServesAsWorked
