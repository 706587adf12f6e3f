-- What a target replies, as a value and as its bytes.
use Rattle.std.specs.Prelude.{ℕ, Bool, true, false, List, ◌++◌, codes, length}
use Rattle.content.specs.Tree.{boolean, text, field, no_fields, object}
use Rattle.content.specs.Canonical.{canonical}
use Rattle.u1_base.specs.Places.{Place}
use Rattle.httparse.specs.Grammar as grammar
use Rattle.sync_http.specs.Bodies.{info_text}
use Rattle.sync_http.specs.Written.{reply_written}
use Rattle.sync_http.specs.declared.fault.WireFault.{WireFault}
use Rattle.sync_http.specs.declared.fault.WireFault.TheVariants as fault
use Rattle.sync_http.specs.declared.info.Info.{Info}
use Rattle.sync_stream.specs.Written.{stream_text}
use Rattle.sync_stream.specs.declared.line.HeadKind.TheVariants as kind
use Rattle.sync_stream.specs.declared.line.SyncDoc.{SyncDoc}

-- ---- refusals

-- why a request is refused
pub data Refusal : Type 0 where
  BadRequest : Refusal
  NotFound : Refusal
  WrongMethod : Refusal
  LogCheck : Refusal
  NoLength : Refusal
  TooLarge : Refusal
  StoreFailed : Refusal
  NoMemory : Refusal
  StoreFull : Refusal

-- its status in HTTP, and its words in the body of the reply
abbrev pub refusal_status : Refusal → ℕ
refusal_status BadRequest = 400
refusal_status NotFound = 404
refusal_status WrongMethod = 405
refusal_status LogCheck = 409
refusal_status NoLength = 411
refusal_status TooLarge = 413
refusal_status StoreFailed = 500
refusal_status NoMemory = 503
refusal_status StoreFull = 507

abbrev pub refusal_words : Refusal → List ℕ
refusal_words BadRequest = codes "bad request"
refusal_words NotFound = codes "not found"
refusal_words WrongMethod = codes "method not allowed"
refusal_words LogCheck = codes "log check"
refusal_words NoLength = codes "length required"
refusal_words TooLarge = codes "too large"
refusal_words StoreFailed = codes "store failed"
refusal_words NoMemory = codes "no memory"
refusal_words StoreFull = codes "store full"

-- the refusal of a head with a fault
abbrev pub head_refusal : WireFault → Refusal
head_refusal fault.TooLarge = TooLarge
head_refusal fault.BadHead = BadRequest
head_refusal fault.BadPath = NotFound
head_refusal fault.BadMethod = WrongMethod
head_refusal fault.Chunked = NoLength
head_refusal fault.NoLength = NoLength
head_refusal fault.Memory = NoMemory

-- ---- replies

-- what the target knows; that it keeps the told position; its log's end and changed documents; or a refusal
pub data Reply : Type 0 where
  Tells : Info → Reply
  Keeps : Reply
  Returns : Place → List SyncDoc → Reply
  Refuses : Refusal → Reply

abbrev pub reply_status : Reply → ℕ
reply_status (Tells info) = 200
reply_status Keeps = 200
reply_status (Returns at docs) = 200
reply_status (Refuses refusal) = refusal_status refusal

-- the body is a stream of documents
abbrev pub is_stream : Reply → Bool
is_stream (Tells info) = false
is_stream Keeps = false
is_stream (Returns at docs) = true
is_stream (Refuses refusal) = false

-- `{"ok":true}`, and `{"error":WORDS}`
unfoldable pub kept_text : List ℕ
kept_text = canonical (object (field (codes "ok") (boolean true) no_fields))

unfoldable pub refusal_text : Refusal → List ℕ
refusal_text refusal = canonical (object (field (codes "error") (text (refusal_words refusal)) no_fields))

abbrev pub reply_body : Reply → List ℕ
reply_body (Tells info) = info_text info
reply_body Keeps = kept_text
reply_body (Returns at docs) = stream_text kind.Reply at docs
reply_body (Refuses refusal) = refusal_text refusal

-- the bytes of the reply: its head with the length of its body, and the body
abbrev pub reply_text : Reply → List ℕ
reply_text reply =
    grammar.print_response (reply_written (record { status = reply_status reply; body = length (reply_body reply) })
    (is_stream reply))
    ++ reply_body reply
