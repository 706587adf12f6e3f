-- What a request and a reply say, as values, as far as their bytes came.
use Rattle.std.specs.Prelude.{◌≡◌, ◌≢◌, ℕ, nat_le, nat_lt, if◌then◌else◌, List, [], ◌∷◌, length}
use Rattle.std.specs.Prelude.{drop, take, Option, Some, None, Ok, Err}
use Rattle.u1_base.specs.Places.{Place}
use Rattle.u1_base.specs.declared.limits.TheConstants.{MOST_POSITION_BODY_BYTES}
use Rattle.sync_http.specs.Bodies.{info_in, kept_in, told_in}
use Rattle.sync_http.specs.Hearing.{HearsReply, HearsRequest, IsReplyFault, SaysReply, SaysRequest}
use Rattle.sync_http.specs.declared.fault.WireFault.{WireFault}
use Rattle.sync_http.specs.declared.fault.WireFault.TheVariants.{Memory}
use Rattle.sync_http.specs.declared.heads.Heard.TheVariants.{NotYet}
use Rattle.sync_http.specs.declared.heads.RequestHead.{RequestHead}
use Rattle.sync_http.specs.declared.heads.Verb.{Verb}
use Rattle.sync_http.specs.declared.heads.Verb.TheVariants.{Get, Put, Post}
use Rattle.sync_http.specs.declared.info.Info.{Info}
use Rattle.sync_stream.specs.Came.{Ending, SaysBody}
use Rattle.sync_stream.specs.declared.line.HeadKind.{HeadKind}
use Rattle.sync_stream.specs.declared.line.HeadKind.TheVariants.{Request as OfRequest, Reply as OfReply}
use Rattle.sync_stream.specs.declared.line.Line.{Line}
use Rattle.sync_stream.specs.declared.line.Line.TheVariants.{Head, Doc, End}
use Rattle.sync_stream.specs.declared.line.SyncDoc.{SyncDoc}

-- ---- streams

-- the head and the documents of the whole good lines, and how the body ends
pub record Stream : Type 0 where
  pub head : Option Place
  pub docs : List SyncDoc
  pub ending : Ending

abbrev pub head_in : List Line → Option Place
head_in [] = None
head_in (Head p ∷ lines) = Some p
head_in (Doc doc ∷ lines) = head_in lines
head_in (End ∷ lines) = head_in lines

abbrev pub docs_in : List Line → List SyncDoc
docs_in [] = []
docs_in (Head p ∷ lines) = docs_in lines
docs_in (Doc doc ∷ lines) = doc ∷ docs_in lines
docs_in (End ∷ lines) = docs_in lines

-- the bytes that came of a body of n bytes say this stream; bytes behind the body are none of it
pub record SaysStream (kind : HeadKind) (bytes : List ℕ) (n : ℕ) (stream : Stream) : Type 0 where
  pub said : List Line
  pub says : SaysBody kind (take n bytes) (nat_le n (length bytes)) said stream.ending
  pub head : head_in said ≡ stream.head
  pub docs : docs_in said ≡ stream.docs

-- ---- small bodies

-- the longest small body, in bytes
abbrev pub most_small : ℕ
most_small = MOST_POSITION_BODY_BYTES

-- a small body: what it says, or that it is outside its format, ends before its length, or is longer than may be read
pub data Small (A : Type 0) : Type 0 where
  Says : A → Small A
  Unread : Small A
  Short : Small A
  Over : Small A

abbrev pub small_if : {A : Type 0} → Option A → Small A
small_if None = Unread
small_if (Some x) = Says x

-- what the bytes that came of a body of n bytes say, by its reader
abbrev pub small_of : {A : Type 0} → (List ℕ → Option A) → ℕ → List ℕ → Small A
small_of reads n bytes =
    if nat_lt most_small n then Over else (if nat_lt (length bytes) n then Short else small_if (reads (take n bytes)))

-- ---- requests

-- what a target is asked: its info, to keep a position as told, or to exchange documents
pub data Purpose : Type 0 where
  AskInfo : Purpose
  Tell : Small Place → Purpose
  Exchange : Stream → Purpose

-- a request: why it has no head (the bytes end within it, or it has a fault), or the database, the source and what is
-- asked
pub data Request : Type 0 where
  EndsEarly : Request
  Refused : WireFault → Request
  Asks : List ℕ → List ℕ → Purpose → Request

-- the bytes after the head say what is asked
abbrev pub SaysPurpose : Verb → List ℕ → ℕ → Purpose → Type 0
SaysPurpose Get bytes n purpose = purpose ≡ AskInfo
SaysPurpose Put bytes n purpose = purpose ≡ Tell (small_of told_in n bytes)
SaysPurpose Post bytes n purpose =
    (stream : Stream) × SaysStream OfRequest bytes n stream × (purpose ≡ Exchange stream)

-- the bytes that were read of a connection say this request; running out of memory is no fault of theirs
abbrev pub ReadsRequest : List ℕ → Request → Type 0
ReadsRequest bytes EndsEarly = HearsRequest bytes (Ok NotYet)
ReadsRequest bytes (Refused fault) = HearsRequest bytes (Err fault) × (fault ≢ Memory)
ReadsRequest bytes (Asks db source purpose) =
    (head : RequestHead) × (n : ℕ) × SaysRequest bytes (Ok head) n × (head.db ≡ db) × (head.source ≡ source)
    × SaysPurpose head.verb (drop n bytes) head.body purpose

-- ---- replies

-- what came back: the connection ended within the head, the head has a fault or another status than 200, or it is a
-- reply that says this
pub data HeardReply (A : Type 0) : Type 0 where
  NoReply : HeardReply A
  BadReply : WireFault → HeardReply A
  Status : ℕ → HeardReply A
  Hears : A → HeardReply A

-- the bytes that came back say this, by what the bytes after the head say of a body of so many bytes
abbrev pub ReadsReply : {A : Type 0} → (List ℕ → ℕ → A → Type 0) → List ℕ → HeardReply A → Type 0
ReadsReply says bytes NoReply = HearsReply bytes (Ok NotYet)
ReadsReply says bytes (BadReply fault) = HearsReply bytes (Err fault) × IsReplyFault fault
ReadsReply says bytes (Status status) =
    (body : ℕ) × (n : ℕ) × SaysReply bytes (Ok (record { status = status; body = body })) n × (status ≢ 200)
ReadsReply says bytes (Hears x) =
    (body : ℕ) × (n : ℕ) × SaysReply bytes (Ok (record { status = 200; body = body })) n × says (drop n bytes) body x

-- what the bytes say that come back to each ask
abbrev pub SaysInfo : List ℕ → ℕ → Small Info → Type 0
SaysInfo bytes n info = info ≡ small_of info_in n bytes

abbrev pub SaysKept : List ℕ → ℕ → Small (Unit {0}) → Type 0
SaysKept bytes n kept = kept ≡ small_of kept_in n bytes

abbrev pub SaysReturned : List ℕ → ℕ → Stream → Type 0
SaysReturned bytes n stream = SaysStream OfReply bytes n stream
